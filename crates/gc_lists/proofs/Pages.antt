-- What an allocation leaves of the heap's pages keeps the limit, and so do several, one behind the other.
use Rattle.std.proofs.Common.{inl, inr, ◌≡◌, ℕ, ◌≤◌, if◌then◌else◌, true, false, Option, refl, sym, ap, ◌∙◌, subst, arith}
use Rattle.gc_model.specs.Table.{Table, made_pages}
use Rattle.gc_model.specs.Allocation.{MayHave, MayMakeHeap, GetsPages, LacksMemory, no_heap, no_room}
use Rattle.gc_model.specs.Allocation as allocation
use Rattle.gc_store.specs.Places.{MayGetPages}
use Rattle.gc_lists.specs.Frames.{KeepsLimit, unchanged, granted}

module _ {D : Type 0} (limit : Option ℕ) (t u : Table D) where
  -- as many pages as the first ones come to, where the heap has any
  is_made : t.made ≡ true → made_pages t ≡ t.pages
  is_made e = ap (λ b. if b then t.pages else t.first) e

  is_unmade : t.made ≡ false → made_pages t ≡ t.first
  is_unmade e = ap (λ b. if b then t.pages else t.first) e

  first_pages : MayMakeHeap limit t → u.made ≡ true → u.pages ≡ made_pages t → KeepsLimit limit t u
  first_pages may made is = elim t.made as (λ b. t.made ≡ b → KeepsLimit limit t u) [
    | true ↦ λ e. unchanged (made ∙ sym e) (is ∙ is_made e)
    | false ↦ λ e. granted made (omega (arith, is)) (subst (MayHave limit) (sym (is ∙ is_unmade e)) (may e))
  ] refl

  pub gets_within : (bytes pages : ℕ) → GetsPages limit t bytes pages → u.made ≡ true → u.pages ≡ pages → KeepsLimit limit t u
  gets_within bytes pages (allocation.same may) made is = first_pages may made is
  gets_within bytes pages (allocation.more may grows) made is = granted made (omega (arith, is)) (subst (MayHave limit) (sym is) grows.granted)

  pub may_get_within : (bytes : ℕ) → MayGetPages limit bytes t u → KeepsLimit limit t u
  may_get_within bytes (inl is) = unchanged (ap (λ (v : Table D). v.made) is) (ap (λ (v : Table D). v.pages) is)
  may_get_within bytes (inr more) = gets_within bytes more.0 more.1.0 (ap (λ (v : Table D). v.made) more.1.1) (ap (λ (v : Table D). v.pages) more.1.1)

  pub lacks_within : (layouts : _) (places : _) (o : _) → LacksMemory layouts limit places o t u → KeepsLimit limit t u
  lacks_within layouts places o (no_heap refused is) = unchanged (ap (λ (v : Table D). v.made) is) (ap (λ (v : Table D). v.pages) is)
  lacks_within layouts places o (no_room may refused lacks is) = first_pages may (ap (λ (v : Table D). v.made) is) (ap (λ (v : Table D). v.pages) is)

  -- a table with the same pages
  pub same_pages : (v : Table D) → v.made ≡ u.made → v.pages ≡ u.pages → KeepsLimit limit t u → KeepsLimit limit t v
  same_pages v made' is' (unchanged made is) = unchanged (made' ∙ made) (is' ∙ is)
  same_pages v made' is' (granted made few may) = granted (made' ∙ made) (subst (λ n. made_pages t ≤ n) (sym is') few) (subst (MayHave limit) (sym is') may)

  pub still_within : KeepsLimit limit t u → MayHave limit t.pages → MayHave limit u.pages
  still_within (unchanged made is) may = subst (MayHave limit) (sym is) may
  still_within (granted made few may) before = may

pub within_then : {D : Type 0} (limit : Option ℕ) (t u v : Table D) → u.first ≡ t.first → KeepsLimit limit t u → KeepsLimit limit u v → KeepsLimit limit t v
within_then limit t u v first keeps (unchanged made is) = same_pages limit t u v made is keeps
within_then limit t u v first (unchanged made is) (granted made' few may) =
    let same : made_pages u ≡ made_pages t = (λ i. if made i then is i else first i) in
    granted made' (subst (λ n. n ≤ v.pages) same few) may
within_then limit t u v first (granted made few may) (granted made' few' may') = let e = is_made limit u v made in granted made' (omega (arith, e, few, few')) may'
