use Rattle.std.proofs.Common.{◌<◌, length, sym, arith, rules}
use Rattle.std.proofs.lemmas.Bool.{eqb-false}
use Rattle.std.proofs.lemmas.List.{take_rest}
use Rattle.gcsh_top.proofs.EndLemmas.{progress_more, progress_part, progress_stuck}
use Rattle.gcsh_top.proofs.write.write_all.Goals as goal

pub loop-rest-preserved : goal.loop-rest-preserved
loop-rest-preserved g c = record {
  taken = rw take_rest (progress_more _ _ _ c.args.bytes.now c.loop-rest.rest.now c.in-Ok.count c.loop-rest.invariant.taken c.in-Ok.ensures.bytes);
  faults = search rules;
}

pub returns-in-Ok-eq0-clause-part : goal.returns-in-Ok-eq0-clause-part
returns-in-Ok-eq0-clause-part g c =
    let left = eqb-false (length c.loop-rest.rest.now) 0 (sym c.loop-rest-test.ensures) in
    let some : 0 < length c.loop-rest.rest.now = omega arith in
    progress_stuck _ _ _ c.args.bytes.now c.loop-rest.rest.now c.in-Ok-eq0.field-0 c.loop-rest.invariant.taken some c.in-Ok-eq0.field-0-test c.in-Ok-eq0.ensures.bytes

pub returns-in-Err-clause-part : goal.returns-in-Err-clause-part
returns-in-Err-clause-part g c =
    let left = eqb-false (length c.loop-rest.rest.now) 0 (sym c.loop-rest-test.ensures) in
    let some : 0 < length c.loop-rest.rest.now = omega arith in
    progress_part _ _ _ c.args.bytes.now c.loop-rest.rest.now c.loop-rest.invariant.taken some c.in-Err.ensures.bytes
