-- Steps of a call: what they leave grows by what each adds.
use Rattle.std.proofs.Common.{◌≡◌, ℕ, ◌+◌, ◌≤◌, Option, [], ◌∷◌, ◌++◌, length, sym, ap, ◌∙◌, refl, subst, arith, length-append}
use Rattle.std.specs.List.{All}
use Rattle.std.proofs.lemmas.List.{append_assoc, append-nil}
use Rattle.std.proofs.lemmas.List.Elements.{All-append}
use Rattle.gc_model.specs.Values.{Reference}
use Rattle.gc_model.specs.Table.{Table, push}
use Rattle.gc_model.specs.Stores.{StoreView}
use Rattle.gc_store.specs.Stores.{IsSameStore}
use Rattle.gc_lists.specs.declared.kit.Kit.{Kit}
use Rattle.gc_lists.specs.Cells.{IsOfKit}
use Rattle.gc_lists.specs.Frames.{unchanged}
use Rattle.gc_lists.proofs.Pages.{within_then}
use Rattle.gc_maps.specs.Ends.{Pushes, MakesNodes}
use Rattle.gc_maps.proofs.Naming.{Keeps, names_more}

module _ {D : Type 0} where
  pub pushes_none : (most : ℕ) (t : Table D) → Pushes most t t
  pushes_none most t = record {
    scoped = [];
    few = omega arith;
    pushes = [];
    rest = λ i. record t { scoped = sym (append-nil t.scoped) i; pushes = sym (append-nil t.pushes) i };
  }

  pub pushes_one : (r : Reference) (t : Table D) → Pushes 1 t (push r t)
  pushes_one r t = record {
    scoped = record { serial = length t.pushes; reference = r } ∷ [];
    few = omega arith;
    pushes = record { index = length t.scoped; generation = t.drops } ∷ [];
    rest = refl;
  }

  pub pushes_then : (m n : ℕ) (t u v : Table D) → Pushes m t u → Pushes n u v → Pushes (m + n) t v
  pushes_then m n t u v first second =
      let a = first.few in let b = second.few in let e = length-append first.scoped second.scoped in
      record {
        scoped = first.scoped ++ second.scoped;
        few = omega (arith, a, b, e);
        pushes = first.pushes ++ second.pushes;
        rest = second.rest ∙ ap (λ (w : Table D). record w { scoped = w.scoped ++ second.scoped; pushes = w.pushes ++ second.pushes }) first.rest
            ∙ (λ i. record t { scoped = append_assoc t.scoped first.scoped second.scoped i; pushes = append_assoc t.pushes first.pushes second.pushes i });
      }

  pub pushes_keep : (most : ℕ) (s : StoreView D) (t : Table D) (s' : StoreView D) (u : Table D) → IsSameStore s s' → Pushes most t u → Keeps s t s' u
  pushes_keep most s t s' u same pushes =
      let is : u ≡ record t { objects = t.objects ++ []; scoped = t.scoped ++ pushes.scoped; pushes = t.pushes ++ pushes.pushes; made = t.made; pages = t.pages } =
      pushes.rest ∙ (λ i. record t { objects = sym (append-nil t.objects) i; scoped = t.scoped ++ pushes.scoped; pushes = t.pushes ++ pushes.pushes }) in
      subst (λ (w : Table D). Keeps s t s' w) (sym is) (names_more s t s' same [] pushes.scoped pushes.pushes t.made t.pages)

  pub none_of_kit : (kit : Kit) → All (IsOfKit {D = D} kit) []
  none_of_kit kit k d below = absurd (omega (arith, below))

  pub pushes_grow : {limit : Option ℕ} (kit : Kit) (most : ℕ) (t u : Table D) → Pushes most t u → MakesNodes limit kit 0 most t u
  pushes_grow kit most t u pushes = record {
    made = [];
    of_kit = none_of_kit kit;
    few_made = omega arith;
    scoped = pushes.scoped;
    few = pushes.few;
    pushes = pushes.pushes;
    rest = pushes.rest ∙ (λ i. record t { objects = sym (append-nil t.objects) i; scoped = t.scoped ++ pushes.scoped; pushes = t.pushes ++ pushes.pushes; made = t.made; pages = t.pages })
        ∙ (λ i. record t { objects = t.objects ++ []; scoped = t.scoped ++ pushes.scoped; pushes = t.pushes ++ pushes.pushes; made = (sym pushes.rest i).made; pages = (sym pushes.rest i).pages });
    pages = unchanged (ap (λ (w : Table D). w.made) pushes.rest) (ap (λ (w : Table D). w.pages) pushes.rest);
  }

  pub grows_none : {limit : Option ℕ} (kit : Kit) (nodes most : ℕ) (t : Table D) → MakesNodes limit kit nodes most t t
  grows_none kit nodes most t = record {
    made = [];
    of_kit = none_of_kit kit;
    few_made = omega arith;
    scoped = [];
    few = omega arith;
    pushes = [];
    rest = λ i. record t { objects = sym (append-nil t.objects) i; scoped = sym (append-nil t.scoped) i; pushes = sym (append-nil t.pushes) i };
    pages = unchanged refl refl;
  }

  pub grows_then : {limit : Option ℕ} (kit : Kit) (a b m n : ℕ) (t u v : Table D) → MakesNodes limit kit a m t u → MakesNodes limit kit b n u v → MakesNodes limit kit (a + b) (m + n) t v
  grows_then {limit} kit a b m n t u v first second =
      let p = first.few in let q = second.few in let e = length-append first.scoped second.scoped in
      let x = first.few_made in let y = second.few_made in let z = length-append first.made second.made in
      record {
        made = first.made ++ second.made;
        of_kit = All-append (IsOfKit kit) first.made second.made first.of_kit second.of_kit;
        few_made = omega (arith, x, y, z);
        scoped = first.scoped ++ second.scoped;
        few = omega (arith, p, q, e);
        pushes = first.pushes ++ second.pushes;
        rest = second.rest ∙ ap (λ (w : Table D). record w { objects = w.objects ++ second.made; scoped = w.scoped ++ second.scoped; pushes = w.pushes ++ second.pushes; made = v.made; pages = v.pages }) first.rest
            ∙ (λ i. record t { objects = append_assoc t.objects first.made second.made i; scoped = append_assoc t.scoped first.scoped second.scoped i; pushes = append_assoc t.pushes first.pushes second.pushes i; made = v.made; pages = v.pages });
        pages = within_then limit t u v (ap (λ (w : Table D). w.first) first.rest) first.pages second.pages;
      }

  pub grows_within : {limit : Option ℕ} (kit : Kit) (a b m n : ℕ) (t u : Table D) → a ≤ b → m ≤ n → MakesNodes limit kit a m t u → MakesNodes limit kit b n t u
  grows_within kit a b m n t u below few grows =
      let x = grows.few_made in let y = grows.few in
      record { made = grows.made; of_kit = grows.of_kit; few_made = omega (arith, x, below); scoped = grows.scoped; few = omega (arith, y, few); pushes = grows.pushes; rest = grows.rest; pages = grows.pages }

  -- the same under what is the same limit
  pub grows_under : {limit : Option ℕ} (limit' : Option ℕ) (kit : Kit) (nodes most : ℕ) (t u : Table D) → limit' ≡ limit → MakesNodes limit kit nodes most t u → MakesNodes limit' kit nodes most t u
  grows_under {limit} limit' kit nodes most t u same grows = subst (λ (l : Option ℕ). MakesNodes l kit nodes most t u) (sym same) grows

  pub grows_keep : {limit : Option ℕ} (kit : Kit) (nodes most : ℕ) (s : StoreView D) (t : Table D) (s' : StoreView D) (u : Table D) → IsSameStore s s' → MakesNodes limit kit nodes most t u → Keeps s t s' u
  grows_keep kit nodes most s t s' u same grows =
      subst (λ (w : Table D). Keeps s t s' w) (sym grows.rest) (names_more s t s' same grows.made grows.scoped grows.pushes u.made u.pages)

  pub same_then : (a b c : StoreView D) → IsSameStore a b → IsSameStore b c → IsSameStore a c
  same_then a b c first second = record { engine = second.engine ∙ first.engine; number = second.number ∙ first.number; counter = second.counter ∙ first.counter }
