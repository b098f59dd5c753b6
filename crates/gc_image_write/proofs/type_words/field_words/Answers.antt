use Rattle.std.proofs.Common.{◌<◌, ◌≤◌, ◌+◌, take, sym, subst}
use Rattle.gc_image_write.specs.Plain.{IsPlainField}
use Rattle.gc_image_write.specs.TypeWords.{AreWordsOf, WordsField}
use Rattle.gc_image_write.proofs.WordLemmas.{counted, not_plain, words_all, words_more}
use Rattle.gc_image_write.proofs.type_words.field_words.Goals as goal

pub loop-index-preserved : goal.loop-index-preserved
loop-index-preserved c = λ fields known.
    subst (λ ws. AreWordsOf WordsField (take (c.loop-index.index + 1) fields) ws) (sym c.in_ok-extend_from_slice-in-Some.ensures.items)
    (words_more WordsField fields c.loop-index.index c.loop-index.words.items c.in-Some.word (c.loop-index.invariant fields known)
    (subst (λ n. c.loop-index.index < n) (counted _ _ c.fields_len.result c.unwrap_or-index-end.result known c.fields_len.ensures c.unwrap_or-index-end.ensures) c.loop-index-test.true)
    (λ x at. c.in-Some.ensures fields x known at))

pub returns-clause-some : goal.returns-clause-some
returns-clause-some c = λ fields known.
    words_all WordsField fields c.loop-index.index c.loop-index.words.items (c.loop-index.invariant fields known)
    (subst (λ n. n ≤ c.loop-index.index) (counted _ _ c.fields_len.result c.unwrap_or-index-end.result known c.fields_len.ensures c.unwrap_or-index-end.ensures) c.loop-index-test.false)

pub returns-in-None-clause-none : goal.returns-in-None-clause-none
returns-in-None-clause-none c = λ fields known.
    not_plain IsPlainField fields c.loop-index.index
    (subst (λ n. c.loop-index.index < n) (counted _ _ c.fields_len.result c.unwrap_or-index-end.result known c.fields_len.ensures c.unwrap_or-index-end.ensures) c.loop-index-test.true)
    (λ x at. c.in-None.ensures fields x known at)
