use Rattle.std.proofs.Common.{string_bytes}
use Rattle.gcsh_top.proofs.FormLemmas.{five_words, form_of_words, four_words, no_report, no_task}
use Rattle.gcsh_top.proofs.words.parse_words.Goals as goal

pub returns-in_err-task-in-len5 : goal.returns-in_err-task-in-len5
returns-in_err-task-in-len5 c =
    let are =
    five_words (λ w. string_bytes w) c.args.words.now c.collector-item-then-words-lt6.result c.first-item-then-words-lt6.result c.most-item-then-words-lt6.result c.name-item-then-words-lt6.result c.count-item.result c.in-len5.len_at_least c.in-len5.len_below
    c.collector-item-then-words-lt6.is c.first-item-then-words-lt6.is c.most-item-then-words-lt6.is c.name-item-then-words-lt6.is c.count-item.is in
    let name = c.as_str-in-len5.ensures.value in
    let rounds = c.as_str-in-len5-2.ensures.value in
    rw c.from_residual-in_err-task-in-len5.ensures
    (no_task _ (string_bytes c.collector-item-then-words-lt6.result) (string_bytes c.first-item-then-words-lt6.result) (string_bytes c.most-item-then-words-lt6.result) c.as_str-in-len5.result.now c.as_str-in-len5-2.result.now (cc) c.in_err-task-in-len5.ensures)

pub returns-in_ok-task-in-len5 : goal.returns-in_ok-task-in-len5
returns-in_ok-task-in-len5 c =
    let are =
    five_words (λ w. string_bytes w) c.args.words.now c.collector-item-then-words-lt6.result c.first-item-then-words-lt6.result c.most-item-then-words-lt6.result c.name-item-then-words-lt6.result c.count-item.result c.in-len5.len_at_least c.in-len5.len_below
    c.collector-item-then-words-lt6.is c.first-item-then-words-lt6.is c.most-item-then-words-lt6.is c.name-item-then-words-lt6.is c.count-item.is in
    let name = c.as_str-in-len5.ensures.value in
    let rounds = c.as_str-in-len5-2.ensures.value in
    let collector = c.as_str-in-len5-3.ensures.value in
    let first = c.as_str-in-len5-4.ensures.value in
    let most = c.as_str-in-len5-5.ensures.value in
    let task = c.in_ok-task-in-len5.ensures.1 in
    form_of_words _ _ c.parse_heap-in-len5.result (cc) c.parse_heap-in-len5.ensures

pub returns-in_err-task-in-len4 : goal.returns-in_err-task-in-len4
returns-in_err-task-in-len4 c =
    let are =
    four_words (λ w. string_bytes w) c.args.words.now c.collector-item-then-words-lt5.result c.first-item-then-words-lt5.result c.most-item-then-words-lt5.result c.name-item.result c.in-len4.len_at_least c.in-len4.len_below
    c.collector-item-then-words-lt5.is c.first-item-then-words-lt5.is c.most-item-then-words-lt5.is c.name-item.is in
    let name = c.as_str-in-len4.ensures.value in
    rw c.from_residual.ensures
    (no_report _ (string_bytes c.collector-item-then-words-lt5.result) (string_bytes c.first-item-then-words-lt5.result) (string_bytes c.most-item-then-words-lt5.result) c.as_str-in-len4.result.now (cc) c.in_err-task-in-len4.ensures)
