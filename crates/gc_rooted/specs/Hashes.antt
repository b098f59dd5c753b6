-- What the hash of a reference is.
use Rattle.std.specs.Prelude.{◌≡◌, ℕ, List, Result, Ok, Err}
use Rattle.std.specs.List.{fold}
use Rattle.std.specs.Hash as fed
use Rattle.gc_model.specs.Values.{Reference}
use Rattle.gc_model.specs.Holds.{Placing, IsWord}
use Rattle.gc_values.specs.declared.root.RootFault.{RootFault}

-- a hasher with that way to write was fed the word of a live reference
abbrev pub HashesReference : {S : Type 0} → (S → List ℕ → S) → Placing → Reference → S → S → Result (Unit {0}) RootFault → Type 0
HashesReference write place r old new (Ok done) = (word : ℕ) × (IsWord place r word × (new ≡ fold write old (fed.u32 word)))
HashesReference write place r old new (Err why) = ⊥
