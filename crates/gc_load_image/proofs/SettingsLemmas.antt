-- The configuration of a store is as it was, and what a table has not used up.
use Rattle.std.proofs.Common.{◌≡◌, ◌≤◌, ℕ, ◌+◌, ◌-◌, ◌^◌, min, nat_lt, Bool, true, false, cond, [], length, None, refl, sym, ◌∙◌, arith}
use Rattle.gc_types.specs.declared.kind.Layouts.{Layouts}
use Rattle.gc_model.specs.Stores.{StoreView}
use Rattle.gc_model.specs.Table.{Table, leave}
use Rattle.gc_model.specs.Accounts.{Account, HoldsAccount}
use Rattle.gc_load_image.specs.Loads.{HasGlobalsAlone, KeepsSettings}
use Rattle.gc_load_image.specs.Stages.{IsUnused}

pub settings_itself : (s : StoreView ℕ) → KeepsSettings s s
settings_itself s = record { first = refl; max_scoped = refl; max_owned = refl }

pub settings_twice : (a b c : StoreView ℕ) → KeepsSettings a b → KeepsSettings b c → KeepsSettings a c
settings_twice a b c one two = record { first = two.first ∙ one.first; max_scoped = two.max_scoped ∙ one.max_scoped; max_owned = two.max_owned ∙ one.max_owned }

-- stores that hold tables of one configuration have it
pub settings_held : (layouts : Layouts) (s new : StoreView ℕ) (t u : Table ℕ) (a b : Account) → HoldsAccount layouts s t a → HoldsAccount layouts new u b → u.first ≡ t.first → u.max_scoped ≡ t.max_scoped → u.max_owned ≡ t.max_owned → KeepsSettings s new
settings_held layouts s new t u a b before after first scoped owned = record {
  first = after.holds.settings.first ∙ first ∙ sym before.holds.settings.first;
  max_scoped = after.holds.settings.max_scoped ∙ scoped ∙ sym before.holds.settings.max_scoped;
  max_owned = after.holds.settings.max_owned ∙ owned ∙ sym before.holds.settings.max_owned;
}

-- a table that changed elsewhere
pub unused_like : (t u : Table ℕ) → u.drops ≡ t.drops → u.owns ≡ t.owns → u.interned ≡ t.interned → IsUnused t → IsUnused u
unused_like t u drops owns interned unused = record { drops = drops ∙ unused.drops; owns = owns ∙ unused.owns; interned = interned ∙ unused.interned }

one_end : (drops : ℕ) (b : Bool) → drops ≡ 0 → cond b (min (drops + 1) (2 ^ 64 - 1)) drops ≤ 1
one_end drops true none = omega (arith, none)
one_end drops false none = omega (arith, none)

-- when the scope is left
pub left_alone : (t : Table ℕ) → IsUnused t → t.frames ≡ [] → t.owned ≡ [] → t.pending ≡ None → HasGlobalsAlone (leave 0 t)
left_alone t unused frames owned pending = record {
  scoped = refl;
  frames = frames;
  owned = owned;
  pending = pending;
  owns = unused.owns;
  interned = unused.interned;
  drops = one_end t.drops (nat_lt 0 (length t.scoped)) unused.drops;
}
