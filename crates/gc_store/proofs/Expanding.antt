-- A growth that was asked for.
use Rattle.std.proofs.Common.{◌≡◌, ℕ, List, ◌<◌, inl, inr, Bool, true, false, Option, Result, Ok, Err, refl, sym, ap, ◌∙◌, subst}
use Rattle.gc_types.specs.declared.kind.Layouts.{Layouts}
use Rattle.gc_types.specs.Declarations.{TypeTable}
use Rattle.gc_model.specs.Table.{Table, make_heap, made_pages}
use Rattle.gc_model.specs.Allocation as allocation
use Rattle.gc_model.specs.Allocation.{Limits, MayMakeHeap, same}
use Rattle.gc_model.specs.Stores.{StoreView}
use Rattle.gc_owner.specs.declared.pages.PagesFault.{PagesFault}
use Rattle.gc_owner.specs.declared.pages.PagesFault.TheVariants as pages_fault
use Rattle.gc_owner.specs.Owners.{OwnerView}
use Rattle.gc_owner.specs.Growing.{OwnerState, BeginsHeap, GrowsReadied, Expands}
use Rattle.gc_model.specs.Accounts.{Account, HoldsAccount}
use Rattle.gc_model.specs.Policy as policy
use Rattle.gc_model.specs.Policy.{PolicyState, table_after}
use Rattle.gc_model.specs.Shown.{shown}
use Rattle.gc_model.proofs.Simulation.{ready_follows}
use Rattle.gc_model.proofs.GrowthSimulation.{Answered, growth_follows}
use Rattle.gc_model.proofs.MakingSimulation.{Shows, making_follows, refusal_follows, no_heap_follows}
use Rattle.gc_store.specs.declared.grow.GrowFault.{GrowFault}
use Rattle.gc_store.specs.declared.grow.GrowFault.TheVariants as fault
use Rattle.gc_store.specs.Expansion.{GrowsStore, ExpandsStore}
use Rattle.gc_store.specs.Places.{MayGetPages}
use Rattle.gc_store.specs.Stores.{IsSoundStore}
use Rattle.gc_values.proofs.Keeping.{Keeps, keeps-trans, keeps-begins, keeps-readies, keeps-grows}

-- a store is sound again where it holds a table
pub sound_again : {D : Type 0} (layouts : Layouts) (s : StoreView D) (v w : OwnerView D) (t : Table D) (a : Account) (counts : List ℕ) → IsSoundStore D layouts counts v (shown s v) → Keeps v w → HoldsAccount layouts (shown s w) t a → IsSoundStore D layouts counts w (shown s w)
sound_again layouts s v w t a counts sound keeps holds = record {
  idle = keeps.idle ∙ sound.idle;
  engine = ap (λ (x : TypeTable). x.engine) keeps.types ∙ sound.engine;
  number = ap (λ (x : TypeTable). x.number) keeps.types ∙ sound.number;
  frames = sound.frames ∙ sym keeps.counts;
  table = t;
  account = a;
  holds = holds;
}

-- A growth

-- a growth of a table whose heap was made
grows_made : {D : Type 0} (limit : Option ℕ) (bytes : ℕ) (t t' : Table D) (ok : Bool) → 0 < bytes → MayMakeHeap limit t → Answered ok limit (made_pages t) bytes → t' ≡ table_after ok bytes (make_heap t) → allocation.Grows limit bytes t ok t'
grows_made limit bytes t t' true some may answer is = subst (allocation.Grows limit bytes t true) (sym is) (allocation.granted some may answer)
grows_made limit bytes t t' false some may answer is = subst (allocation.Grows limit bytes t false) (sym is) (allocation.refused some may answer)

-- a store's answer where its owner answers so
abbrev pub answer_of : Result (Unit {0}) PagesFault → Result (Unit {0}) GrowFault
answer_of (Ok done) = Ok done
answer_of (Err pages_fault.Refused) = Err fault.GcHeapGrowthFailed
answer_of (Err pages_fault.Memory) = Err fault.Memory

-- what a growth leaves of the store
pub record FollowsExpansion {D : Type 0} (layouts : Layouts) (s : StoreView D) (bytes : ℕ) (e : OwnerState D) (p : PolicyState D) (r : Result (Unit {0}) PagesFault) (counts : List ℕ) : Type 0 where
  pub grows : GrowsStore layouts bytes p e.limits (answer_of r) (shown s e.owner)
  pub sound : IsSoundStore D layouts counts e.owner (shown s e.owner)

module _ {D : Type 0} (layouts : Layouts) (s : StoreView D) (h : OwnerState D) (p : PolicyState D) (shows : Shows layouts s h p) (counts : List ℕ) (sound : IsSoundStore D layouts counts h.owner (shown s h.owner)) (bytes : ℕ) (some : 0 < bytes) (e : OwnerState D) where
  -- the heap was made, and its growth granted or refused
  grown : (b : OwnerState D) (ok : Bool) → BeginsHeap layouts s.first h b → GrowsReadied layouts bytes b ok e → ExpandsStore layouts bytes p e.limits ok (shown s e.owner) × IsSoundStore D layouts counts e.owner (shown s e.owner)
  grown b ok begins grew =
      let making = making_follows layouts s h p shows b begins in
      let grown = growth_follows layouts s bytes b making.after making.agrees ok e grew in
      let answer : Answered ok p.limits.limit (made_pages p.table) bytes =
      subst (λ (t : Table D). Answered ok p.limits.limit t.pages bytes) making.table (subst (λ (l : Limits). Answered ok l.limit making.after.table.pages bytes) making.limits grown.answer) in (
        record {
          after = grown.after;
          expands = policy.grows some making.makes grown.grows;
          grows = grows_made p.limits.limit bytes p.table grown.after.table ok some making.may answer (grown.table ∙ ap (table_after ok bytes) making.table);
          holds = grown.agrees.holds;
          limits = sym grown.agrees.limits;
        },
        sound_again layouts s h.owner e.owner grown.after.table grown.after.account counts sound
            (keeps-trans h.owner b.owner e.owner (keeps-begins layouts s.first h b begins) (keeps-grows layouts bytes b ok e grew)) grown.agrees.holds,
      )

  -- the owner is as it was
  same_holds : e.owner ≡ h.owner → HoldsAccount layouts (shown s e.owner) p.table p.account
  same_holds is = subst (λ (v : OwnerView D). HoldsAccount layouts (shown s v) p.table p.account) (sym is) shows.holds

  same_sound : e.owner ≡ h.owner → IsSoundStore D layouts counts e.owner (shown s e.owner)
  same_sound is = subst (λ (v : OwnerView D). IsSoundStore D layouts counts v (shown s v)) (sym is) sound

  pub expansion_follows : (r : Result (Unit {0}) PagesFault) → Expands layouts s.first bytes h e r → FollowsExpansion layouts s bytes e p r counts
  expansion_follows (Ok done) (b, (begins, grew)) = let both = grown b true begins grew in record { grows = both.0; sound = both.1 }
  expansion_follows (Err pages_fault.Refused) (inl no_pages) = record {
    grows = record {
      after = record p { limits = e.limits };
      expands = policy.no_heap some (refusal_follows layouts s h p shows e no_pages);
      grows = allocation.no_heap some (no_heap_follows layouts s h p shows e no_pages);
      holds = same_holds no_pages.same;
      limits = refl;
    };
    sound = same_sound no_pages.same;
  }
  expansion_follows (Err pages_fault.Refused) (inr (b, (begins, grew))) = let both = grown b false begins grew in record { grows = both.0; sound = both.1 }
  expansion_follows (Err pages_fault.Memory) (inl is) =
      let is_same : e.owner ≡ h.owner = ap (λ (x : OwnerState D). x.owner) is in
      record {
        grows = record {
          after = p;
          expanded = policy.not_made some;
          pages = inl refl;
          holds = same_holds is_same;
          limits = ap (λ (x : OwnerState D). x.limits) is ∙ sym shows.limits;
        };
        sound = same_sound is_same;
      }
  expansion_follows (Err pages_fault.Memory) (inr (b, (begins, readied))) =
      let making = making_follows layouts s h p shows b begins in
      let ready = ready_follows layouts s b making.after making.agrees e readied in
      record {
        grows = record {
          after = ready.after;
          expanded = policy.not_grown some making.makes ready.readies;
          pages = inr (made_pages p.table, (same making.may, ready.table ∙ making.table));
          holds = ready.agrees.holds;
          limits = sym ready.agrees.limits;
        };
        sound = sound_again layouts s h.owner e.owner ready.after.table ready.after.account counts sound
            (keeps-trans h.owner b.owner e.owner (keeps-begins layouts s.first h b begins) (keeps-readies layouts b e readied)) ready.agrees.holds;
      }

-- what a growth asked for leaves is a table with the pages that it may have got
pub grows_pages : {D : Type 0} (limit : Option ℕ) (bytes : ℕ) (t t' : Table D) (ok : Bool) → allocation.Grows limit bytes t ok t' → MayGetPages limit bytes t t'
grows_pages limit bytes t _ _ (allocation.nothing none) = inl refl
grows_pages limit bytes t _ _ (allocation.granted some may grow) = inr (_, (allocation.more may grow, refl))
grows_pages limit bytes t _ _ (allocation.no_heap some refused) = inl refl
grows_pages limit bytes t _ _ (allocation.refused some may refused) = inr (_, (same may, refl))
