use Rattle.std.proofs.Common.{rules}
use Rattle.gcsh_top.proofs.stores.Stores.new.Goals as goal

-- src/stores.rt:22:5
pub returns-clause-apart : goal.returns-clause-apart
returns-clause-apart c = record {
  copying_counting = search rules;
  copying_null = search rules;
  counting_null = search rules;
}
