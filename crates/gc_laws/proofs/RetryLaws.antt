-- The rule of retry decides: from alike states it ends alike.
use Rattle.std.proofs.Common.{◌≡◌, Bool, true, false, refl, sym, ◌∙◌}
use Rattle.gc_owner.specs.Retry.{Rules, Retry, HasFoundRoom, at_once, after_collection, after_both, after_growth, after_refusal}

-- what makes the rule decide, where some states are alike
pub record Decides {S : Type 0} (rules : Rules S) (Alike : S → S → Type 0) : Type 0 where
  pub apart : (s t : S) → Alike s t → rules.Fits s → rules.Lacks t → ⊥
  pub apart_too : (s t : S) → Alike s t → rules.Lacks s → rules.Fits t → ⊥
  pub first : (s t : S) → Alike s t → rules.collects_first s ≡ rules.collects_first t
  pub collects : (s t s' t' : S) → Alike s t → rules.Collects s s' → rules.Collects t t' → Alike s' t'
  pub grows : (s t s' t' : S) (granted granted' : Bool) → Alike s t → rules.Grows s granted s' → rules.Grows t granted' t' → (granted ≡ granted') × Alike s' t'

-- a truth value is not both
pub differ : (b : Bool) → b ≡ true → b ≡ false → ⊥
differ b one other = cc

module _ {S : Type 0} (rules : Rules S) (Alike : S → S → Type 0) (decides : Decides rules Alike) where
  ends_alike : (s t : S) (ok ok' : Bool) → Alike s t → HasFoundRoom rules ok s → HasFoundRoom rules ok' t → ok ≡ ok'
  ends_alike s t true true alike one other = refl
  ends_alike s t true false alike one other = absurd (decides.apart s t alike one other)
  ends_alike s t false true alike one other = absurd (decides.apart_too s t alike one other)
  ends_alike s t false false alike one other = refl

  from_room : (s t e : S) (ok : Bool) → Alike s t → rules.Fits s → Retry rules t ok e → (true ≡ ok) × Alike s e
  from_room s t e ok alike room (at_once fits) = (refl, alike)
  from_room s t e ok alike room (after_collection none first collects fits) = absurd (decides.apart s t alike room none)
  from_room s t e ok alike room (after_both none first collects still grows gains ends) = absurd (decides.apart s t alike room none)
  from_room s t e ok alike room (after_growth none first grows fits) = absurd (decides.apart s t alike room none)
  from_room s t e ok alike room (after_refusal none first grows collects ends) = absurd (decides.apart s t alike room none)

  from_collection : (s t m e : S) (ok : Bool) → Alike s t → rules.Lacks s → rules.collects_first s ≡ true → rules.Collects s m → rules.Fits m → Retry rules t ok e → (true ≡ ok) × Alike m e
  from_collection s t m e ok alike none first collects room (at_once fits) = absurd (decides.apart_too s t alike none fits)
  from_collection s t m e ok alike none first collects room (after_collection {m = n} none' first' collects' fits) = (refl, decides.collects s t m n alike collects collects')
  from_collection s t m e ok alike none first collects room (after_both {m = n} none' first' collects' still grows gains ends) = absurd (decides.apart m n (decides.collects s t m n alike collects collects') room still)
  from_collection s t m e ok alike none first collects room (after_growth none' first' grows fits) = absurd (differ (rules.collects_first t) (sym (decides.first s t alike) ∙ first) first')
  from_collection s t m e ok alike none first collects room (after_refusal none' first' grows collects' ends) = absurd (differ (rules.collects_first t) (sym (decides.first s t alike) ∙ first) first')

  from_both : (s t m d e : S) (granted ok ok' : Bool) → Alike s t → rules.Lacks s → rules.collects_first s ≡ true → rules.Collects s m → rules.Lacks m → rules.Grows m granted d → HasFoundRoom rules ok d → Retry rules t ok' e → (ok ≡ ok') × Alike d e
  from_both s t m d e granted ok ok' alike none first collects still grows ends (at_once fits) = absurd (decides.apart_too s t alike none fits)
  from_both s t m d e granted ok ok' alike none first collects still grows ends (after_collection {m = n} none' first' collects' fits) = absurd (decides.apart_too m n (decides.collects s t m n alike collects collects') still fits)
  from_both s t m d e granted ok ok' alike none first collects still grows ends (after_both {m = n} {granted = granted'} none' first' collects' still' grows' gains ends') =
      let grown = decides.grows m n d e granted granted' (decides.collects s t m n alike collects collects') grows grows' in
      (ends_alike d e ok ok' grown.1 ends ends', grown.1)
  from_both s t m d e granted ok ok' alike none first collects still grows ends (after_growth none' first' grows' fits) = absurd (differ (rules.collects_first t) (sym (decides.first s t alike) ∙ first) first')
  from_both s t m d e granted ok ok' alike none first collects still grows ends (after_refusal none' first' grows' collects' ends') = absurd (differ (rules.collects_first t) (sym (decides.first s t alike) ∙ first) first')

  from_growth : (s t d e : S) (ok : Bool) → Alike s t → rules.Lacks s → rules.collects_first s ≡ false → rules.Grows s true d → Retry rules t ok e → (true ≡ ok) × Alike d e
  from_growth s t d e ok alike none first grows (at_once fits) = absurd (decides.apart_too s t alike none fits)
  from_growth s t d e ok alike none first grows (after_collection none' first' collects' fits) = absurd (differ (rules.collects_first t) first' (sym (decides.first s t alike) ∙ first))
  from_growth s t d e ok alike none first grows (after_both none' first' collects' still' grows' gains ends') = absurd (differ (rules.collects_first t) first' (sym (decides.first s t alike) ∙ first))
  from_growth s t d e ok alike none first grows (after_growth none' first' grows' fits) = (refl, (decides.grows s t d e true true alike grows grows').1)
  from_growth s t d e ok alike none first grows (after_refusal {m = n} none' first' grows' collects' ends') = absurd (differ true refl (decides.grows s t d n true false alike grows grows').0)

  from_refusal : (s t m d e : S) (ok ok' : Bool) → Alike s t → rules.Lacks s → rules.collects_first s ≡ false → rules.Grows s false m → rules.Collects m d → HasFoundRoom rules ok d → Retry rules t ok' e → (ok ≡ ok') × Alike d e
  from_refusal s t m d e ok ok' alike none first grows collects ends (at_once fits) = absurd (decides.apart_too s t alike none fits)
  from_refusal s t m d e ok ok' alike none first grows collects ends (after_collection none' first' collects' fits) = absurd (differ (rules.collects_first t) first' (sym (decides.first s t alike) ∙ first))
  from_refusal s t m d e ok ok' alike none first grows collects ends (after_both none' first' collects' still' grows' gains ends') = absurd (differ (rules.collects_first t) first' (sym (decides.first s t alike) ∙ first))
  from_refusal s t m d e ok ok' alike none first grows collects ends (after_growth none' first' grows' fits) = absurd (differ false (decides.grows s t m e false true alike grows grows').0 refl)
  from_refusal s t m d e ok ok' alike none first grows collects ends (after_refusal {m = n} none' first' grows' collects' ends') =
      let ended = decides.collects m n d e (decides.grows s t m n false false alike grows grows').1 collects collects' in
      (ends_alike d e ok ok' ended ends ends', ended)

  pub retries_alike : (s t d e : S) (ok ok' : Bool) → Alike s t → Retry rules s ok d → Retry rules t ok' e → (ok ≡ ok') × Alike d e
  retries_alike s t d e ok ok' alike (at_once fits) other = from_room s t e ok' alike fits other
  retries_alike s t d e ok ok' alike (after_collection none first collects fits) other = from_collection s t d e ok' alike none first collects fits other
  retries_alike s t d e ok ok' alike (after_both {m = m} {granted = granted} none first collects still grows gains ends) other = from_both s t m d e granted ok ok' alike none first collects still grows ends other
  retries_alike s t d e ok ok' alike (after_growth none first grows fits) other = from_growth s t d e ok' alike none first grows other
  retries_alike s t d e ok ok' alike (after_refusal {m = m} none first grows collects ends) other = from_refusal s t m d e ok ok' alike none first grows collects ends other
