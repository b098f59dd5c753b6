-- The rule by which an allocation goes on that finds no room, over states of any kind.
use Rattle.std.specs.Prelude.{◌≡◌, ◌⊎◌, Bool, true, false}

-- What the rule goes by: which states have room and which have none, whether one collects before it grows,
-- how it collects, how it makes ready to grow, and how it grows, or is refused.
pub record Rules (S : Type 0) : Type 1 where
  pub Fits : S → Type 0
  pub Lacks : S → Type 0
  pub collects_first : S → Bool
  pub Collects : S → S → Type 0
  pub Readies : S → S → Type 0
  pub Grows : S → Bool → S → Type 0

-- whether the last try found room
abbrev pub HasFoundRoom : {S : Type 0} → Rules S → Bool → S → Type 0
HasFoundRoom rules true s = rules.Fits s
HasFoundRoom rules false s = rules.Lacks s

-- An allocation tries. Without room it either collects and tries again, and then grows, where a refusal is
-- overlooked; or it grows, and only where that was refused it collects. Then it tries a last time. A growth that
-- is granted gives it room.
pub data Retry {S : Type 0} (rules : Rules S) (s : S) : Bool → S → Type 0 where
  at_once : rules.Fits s → Retry rules s true s
  after_collection : {m : S} → rules.Lacks s → rules.collects_first s ≡ true → rules.Collects s m → rules.Fits m → Retry rules s true m
  after_both : {m e : S} {granted ok : Bool} → rules.Lacks s → rules.collects_first s ≡ true → rules.Collects s m → rules.Lacks m
      → rules.Grows m granted e → (granted ≡ true → ok ≡ true) → HasFoundRoom rules ok e → Retry rules s ok e
  after_growth : {e : S} → rules.Lacks s → rules.collects_first s ≡ false → rules.Grows s true e → rules.Fits e → Retry rules s true e
  after_refusal : {m e : S} {ok : Bool} → rules.Lacks s → rules.collects_first s ≡ false → rules.Grows s false m → rules.Collects m e
      → HasFoundRoom rules ok e → Retry rules s ok e

-- a growth was begun: it is ready, or it was granted or refused
abbrev pub Growing : {S : Type 0} → Rules S → S → S → Type 0
Growing rules s e = rules.Readies s e ⊎ ((granted : Bool) × rules.Grows s granted e)

-- An allocation wanted memory on its way by that rule.
pub data Paused {S : Type 0} (rules : Rules S) (s : S) : S → Type 0 where
  at_first : Paused rules s s
  in_collection : {m : S} → rules.Lacks s → rules.collects_first s ≡ true → rules.Collects s m → Paused rules s m
  in_both : {m e : S} → rules.Lacks s → rules.collects_first s ≡ true → rules.Collects s m → rules.Lacks m → Growing rules m e → Paused rules s e
  in_growth : {e : S} → rules.Lacks s → rules.collects_first s ≡ false → Growing rules s e → Paused rules s e
  in_refusal : {m e : S} → rules.Lacks s → rules.collects_first s ≡ false → rules.Grows s false m → rules.Collects m e → Paused rules s e
