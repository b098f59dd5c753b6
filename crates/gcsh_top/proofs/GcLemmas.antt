-- A last line that is a command which collects.
use Rattle.std.proofs.Common.{◌≡◌, ℕ, true, inl, inr, List, [], ◌∷◌, ◌++◌, codes, refl, sym, ap, subst, arith}
use Rattle.gc_commands.specs.declared.command.Command.{Command}
use Rattle.gc_commands.specs.declared.command.Command.TheVariants.{Bad, Gc, GcInc, GcDrop}
use Rattle.gc_commands.specs.Spelling.{IsCommandOf, Spells}
use Rattle.gc_commands.proofs.UniqueLemmas.{one_spelling}
use Rattle.gc_script.specs.Shapes.{is_collection}
use Rattle.gcsh_top.specs.Runs.{IsCollectionLine, EndsInCollection}

-- none is the last of no lines
pub no_last_gc : EndsInCollection [] → ⊥
no_last_gc ([], (line, (is, e))) = absurd (cc)
no_last_gc (b ∷ bs, (line, (is, e))) = absurd (cc)

same_last : (done : List (List ℕ)) (line : List ℕ) (before : List (List ℕ)) (last : List ℕ) → done ++ line ∷ [] ≡ before ++ last ∷ [] → line ≡ last
same_last [] line [] last e = cc
same_last [] line (b ∷ []) last e = absurd (cc)
same_last [] line (b ∷ d ∷ bs) last e = absurd (cc)
same_last (x ∷ []) line [] last e = absurd (cc)
same_last (x ∷ y ∷ xs) line [] last e = absurd (cc)
same_last (x ∷ xs) line (b ∷ bs) last e = same_last xs line bs last (cc)

-- the last line collects
pub last_line : (done : List (List ℕ)) (line : List ℕ) → EndsInCollection (done ++ line ∷ []) → IsCollectionLine line
last_line done line (before, (last, (is, e))) = subst IsCollectionLine (sym (same_last done line before last e)) is

-- a line is the command that it spells
spelled : (line : List ℕ) (c known : Command) → IsCommandOf line c → Spells line known → c ≡ known
spelled line Bad known is spells = absurd (is known spells)
spelled line c known is spells = one_spelling line c known is spells

gc_spells : Spells (codes "gc") Gc
gc_spells = record { fits = tt; short = omega arith; spelled = refl }

gcinc_spells : Spells (codes "gcinc") GcInc
gcinc_spells = record { fits = tt; short = omega arith; spelled = refl }

gcdrop_spells : Spells (codes "gcdrop") GcDrop
gcdrop_spells = record { fits = tt; short = omega arith; spelled = refl }

-- a line that collects is such a command
pub is_gc_line : (line : List ℕ) (c : Command) → IsCommandOf line c → IsCollectionLine line → is_collection c ≡ true
is_gc_line line c is (inl e) = ap is_collection (spelled line c Gc is (subst (λ (l : List ℕ). Spells l Gc) (sym e) gc_spells))
is_gc_line line c is (inr (inl e)) = ap is_collection (spelled line c GcInc is (subst (λ (l : List ℕ). Spells l GcInc) (sym e) gcinc_spells))
is_gc_line line c is (inr (inr e)) = ap is_collection (spelled line c GcDrop is (subst (λ (l : List ℕ). Spells l GcDrop) (sym e) gcdrop_spells))
