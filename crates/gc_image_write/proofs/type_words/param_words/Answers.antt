use Rattle.std.proofs.Common.{◌<◌, ◌≤◌, ◌+◌, take, sym, subst, ◌∙◌}
use Rattle.std.proofs.lemmas.List.{length-map}
use Rattle.gc_types.specs.Declarations.{constant_field}
use Rattle.gc_image_write.specs.Plain.{IsPlainVal}
use Rattle.gc_image_write.specs.TypeWords.{AreWordsOf, WordsValue}
use Rattle.gc_image_write.proofs.WordLemmas.{counted, not_plain, words_all, words_more}
use Rattle.gc_image_write.proofs.type_words.param_words.Goals as goal

pub loop-index-preserved : goal.loop-index-preserved
loop-index-preserved c = λ params known.
    subst (λ ws. AreWordsOf WordsValue (take (c.loop-index.index + 1) params) ws) (sym c.in_ok-extend_from_slice-in-Some.ensures.items)
    (words_more WordsValue params c.loop-index.index c.loop-index.words.items c.in-Some.word (c.loop-index.invariant params known)
    (subst (λ n. c.loop-index.index < n) (counted _ _ c.fields_len.result c.unwrap_or-index-end.result known c.fields_len.ensures c.unwrap_or-index-end.ensures ∙ length-map params constant_field) c.loop-index-test.true)
    (λ x at. c.in-Some.ensures params x known at))

pub returns-clause-some : goal.returns-clause-some
returns-clause-some c = λ params known.
    words_all WordsValue params c.loop-index.index c.loop-index.words.items (c.loop-index.invariant params known)
    (subst (λ n. n ≤ c.loop-index.index) (counted _ _ c.fields_len.result c.unwrap_or-index-end.result known c.fields_len.ensures c.unwrap_or-index-end.ensures ∙ length-map params constant_field) c.loop-index-test.false)

pub returns-in-None-clause-none : goal.returns-in-None-clause-none
returns-in-None-clause-none c = λ params known.
    not_plain IsPlainVal params c.loop-index.index
    (subst (λ n. c.loop-index.index < n) (counted _ _ c.fields_len.result c.unwrap_or-index-end.result known c.fields_len.ensures c.unwrap_or-index-end.ensures ∙ length-map params constant_field) c.loop-index-test.true)
    (λ x at. c.in-None.ensures params x known at)
