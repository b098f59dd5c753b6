-- In a counting heap of which nothing is freed the objects lie one behind the other, through each part of the policy of growth.
use Rattle.std.proofs.Common.{◌≡◌, ℕ, ◌<◌, Bool, true, false, inl, inr, List, Option, length, refl, sym, ap, ◌∙◌, subst}
use Rattle.gc_types.specs.declared.kind.Layouts.{Layouts}
use Rattle.gc_types.specs.declared.kind.Layouts.TheVariants.{Null, Counting, Copying}
use Rattle.gc_types.specs.Declarations.{Declaration}
use Rattle.gc_model.specs.Values.{Reference, Object}
use Rattle.gc_model.specs.Reach.{IsReached, Reached, root_references}
use Rattle.gc_model.specs.Table.{Table}
use Rattle.gc_model.specs.Allocation.{Limits}
use Rattle.gc_view.specs.Sizes.{need_of}
use Rattle.gc_owner.specs.Retry.{Retry, at_once, after_collection, after_both, after_growth, after_refusal}
use Rattle.gc_model.specs.Policy as policy
use Rattle.gc_model.specs.Policy.{PolicyState, CollectsTable, ReadiesTable, GrowsTable, MakesTable, Dues, Prepares, table_rules, table_after, table_made, count_try}
use Rattle.gc_load_image.specs.Stages.{IsDense}

-- the types and the objects, and that these lie so
pub record Lies (layouts : Layouts) (types : List Declaration) (objects : List (Object ℕ)) (roots : List Reference) (p : PolicyState ℕ) : Type 0 where
  pub types_are : p.table.types ≡ types
  pub objects_are : p.table.objects ≡ objects
  pub roots_are : root_references p.table ≡ roots
  pub dense : IsDense layouts types objects p.account.places

-- places that are left are all of those before
fewer_dense : (layouts : Layouts) (types : List Declaration) (objects : List (Object ℕ)) (p q : PolicyState ℕ) → ((x : ℕ) → x < length objects → IsReached p.table x) → CollectsTable layouts p q
    → IsDense layouts types objects p.account.places → IsDense layouts types objects q.account.places
fewer_dense Null types objects p q all collects dense = tt
fewer_dense Counting types objects p q all collects dense = λ x word. (
  λ e. (dense x word).0 ((collects.places x word).0 e).0,
  λ at. (collects.places x word).1 ((dense x word).1 at, all x at.0),
)
fewer_dense Copying types objects p q all collects dense = tt

module _ (layouts : Layouts) (types : List Declaration) (objects : List (Object ℕ)) (roots : List Reference) (all : (x : ℕ) → x < length objects → Reached objects roots x) where
  abbrev LiesIn : PolicyState ℕ → Type 0
  LiesIn p = Lies layouts types objects roots p

  reached_in : (t : Table ℕ) → t.objects ≡ objects → root_references t ≡ roots → (x : ℕ) → x < length objects → IsReached t x
  reached_in t objects_are roots_are x below =
      subst (λ (os : List (Object ℕ)). Reached os (root_references t) x) (sym objects_are) (subst (λ (rs : List Reference). Reached objects rs x) (sym roots_are) (all x below))

  collects_lies : (p q : PolicyState ℕ) → LiesIn p → CollectsTable layouts p q → LiesIn q
  collects_lies p q lies collects = record {
    types_are = ap (λ (t : Table ℕ). t.types) collects.table ∙ lies.types_are;
    objects_are = ap (λ (t : Table ℕ). t.objects) collects.table ∙ lies.objects_are;
    roots_are = ap (λ (t : Table ℕ). root_references t) collects.table ∙ lies.roots_are;
    dense = fewer_dense layouts types objects p q (reached_in p.table lies.objects_are lies.roots_are) collects lies.dense;
  }

  same_lies : (p q : PolicyState ℕ) → LiesIn p → q ≡ p → LiesIn q
  same_lies p q lies same = subst LiesIn (sym same) lies

  readies_lies : (p q : PolicyState ℕ) → LiesIn p → ReadiesTable layouts p q → LiesIn q
  readies_lies p q lies (inl (up, collects)) = collects_lies p q lies collects
  readies_lies p q lies (inr (down, same)) = same_lies p q lies same

  after_lies : (granted : Bool) (bytes : ℕ) (p : PolicyState ℕ) (limits : Limits) → LiesIn p → LiesIn (record p { table = table_after granted bytes p.table; limits = limits })
  after_lies true bytes p limits lies = record { types_are = lies.types_are; objects_are = lies.objects_are; roots_are = lies.roots_are; dense = lies.dense }
  after_lies false bytes p limits lies = record { types_are = lies.types_are; objects_are = lies.objects_are; roots_are = lies.roots_are; dense = lies.dense }

  grows_lies : (bytes : ℕ) (p q : PolicyState ℕ) (granted : Bool) → LiesIn p → GrowsTable layouts bytes p granted q → LiesIn q
  grows_lies bytes p q granted lies grows = subst LiesIn (sym grows.after) (after_lies granted bytes grows.ready q.limits (readies_lies p grows.ready lies grows.readied))

  made_lies : (granted : Bool) (p : PolicyState ℕ) (limits : Limits) → LiesIn p → LiesIn (record p { table = table_made granted p.table; limits = limits })
  made_lies true p limits lies = record { types_are = lies.types_are; objects_are = lies.objects_are; roots_are = lies.roots_are; dense = lies.dense }
  made_lies false p limits lies = record { types_are = lies.types_are; objects_are = lies.objects_are; roots_are = lies.roots_are; dense = lies.dense }

  makes_lies : (p q : PolicyState ℕ) (granted : Bool) → LiesIn p → MakesTable p granted q → LiesIn q
  makes_lies p q granted lies makes = subst LiesIn (sym makes.after) (made_lies granted p q.limits lies)

  dues_lies : (counter : Option ℕ) (p q : PolicyState ℕ) → LiesIn p → Dues layouts counter p q → LiesIn q
  dues_lies counter p q lies (inl (due, collects)) = collects_lies p q lies collects
  dues_lies counter p q lies (inr (none, same)) = same_lies p q lies same

  retry_lies : (size : ℕ) (p q : PolicyState ℕ) (ok : Bool) → LiesIn p → Retry (table_rules layouts size) p ok q → LiesIn q
  retry_lies size p q ok lies (at_once fits) = lies
  retry_lies size p q ok lies (after_collection none first collects fits) = collects_lies p q lies collects
  retry_lies size p q ok lies (after_both {m = m} {granted = granted} none first collects still grows gains ends) = grows_lies (need_of layouts size) m q granted (collects_lies p m lies collects) grows
  retry_lies size p q ok lies (after_growth none first grows fits) = grows_lies (need_of layouts size) p q true lies grows
  retry_lies size p q ok lies (after_refusal {m = m} none first grows collects ends) = collects_lies m q (grows_lies (need_of layouts size) p m false lies grows) collects

  counted_lies : (p : PolicyState ℕ) → LiesIn p → LiesIn (count_try p)
  counted_lies p lies = record { types_are = lies.types_are; objects_are = lies.objects_are; roots_are = lies.roots_are; dense = lies.dense }

  prepares_lies : (counter : Option ℕ) (size : ℕ) (p q : PolicyState ℕ) (ok : Bool) → LiesIn p → Prepares layouts counter size p ok q → LiesIn q
  prepares_lies counter size p q ok lies (policy.no_heap makes) = makes_lies (count_try p) q false (counted_lies p lies) makes
  prepares_lies counter size p q ok lies (policy.tried {m = m} {n = n} makes dues retry) =
      retry_lies size n q ok (dues_lies counter m n (makes_lies (count_try p) m true (counted_lies p lies) makes) dues) retry

-- what is prepared for one more object
pub still_lies : (layouts : Layouts) (counter : Option ℕ) (size : ℕ) (p q : PolicyState ℕ) (ok : Bool) → ((x : ℕ) → x < length p.table.objects → IsReached p.table x) → Prepares layouts counter size p ok q
    → IsDense layouts p.table.types p.table.objects p.account.places → Lies layouts p.table.types p.table.objects (root_references p.table) q
still_lies layouts counter size p q ok all prepares dense =
    prepares_lies layouts p.table.types p.table.objects (root_references p.table) all counter size p q ok (record { types_are = refl; objects_are = refl; roots_are = refl; dense = dense }) prepares
