use Rattle.std.proofs.Common.{◌≡◌, ℕ, Option, Some, None, Result, Ok, Err, refl, sym, ap, ◌∙◌, subst}
use Rattle.std.specs.Option.{option_copied_mut}
use Rattle.std.proofs.lemmas.Option.{none-some}
use Rattle.gc_model.specs.Values as values
use Rattle.gc_model.specs.Values.{Reference}
use Rattle.gc_model.specs.Table.{Table}
use Rattle.gc_model.specs.Holds.{Placing, Holds}
use Rattle.gc_values.specs.declared.root.RootFault.{RootFault}
use Rattle.gc_values.specs.declared.root.RootFault.TheVariants as root_fault
use Rattle.gc_store.specs.HostLends.{told_of_host}
use Rattle.gc_store.specs.HostSteps.{HasHostId, FindsHostId}
use Rattle.gc_store.specs.Roots.{NamesReference}
use Rattle.gc_store.proofs.HostReads.{host_under}
use Rattle.gc_store.proofs.HostChanges.{named_set}
use Rattle.gc_store.proofs.store.Store.host_data_mut.Given as given
use Rattle.gc_store.proofs.store.Store.host_data_mut.Goals.{After-host_id, After-host_mut}
use Rattle.gc_store.proofs.store.Store.host_data_mut.Goals as goal

-- what was found, by a result that is known
found : (g : given.Over) (c : After-host_id g) (x : Result (Option ℕ) RootFault) → c.host_id.result ≡ x → (t : Table g.row.D.Denot) (place : Placing) (r : Reference) → Holds g.H.GcHeap.KIND c.args.self.now t place → NamesReference c.args.self.now t c.args.handle r
    → FindsHostId c.args.self.now t place r x
found g c x is t place r holds named = subst (λ (y : Result (Option ℕ) RootFault). FindsHostId c.args.self.now t place r y) is (c.host_id.ensures.live t place r holds named)

-- the id that was found is that of what is named
id_found : (g : given.Over) (c : After-host_mut g) (t : Table g.row.D.Denot) (place : Placing) (r : Reference) → Holds g.H.GcHeap.KIND c.args.self.now t place → NamesReference c.args.self.now t c.args.handle r → HasHostId c.args.self.now t place r c.in-Ok-Some.id
id_found g c t place r holds named =
    found g (goal.at.After-host_mut g c).After-host_id (Ok (Some c.in-Ok-Some.id)) (c.in-Ok-Some.is ∙ ap (λ (o : Option ℕ). Ok o) c.in-Ok-Some.field-0-is) t place r holds named

pub returns-in-Some : goal.returns-in-Some
returns-in-Some g c =
    let at = (goal.at.returns-in-Some g c).After-host_mut in (
      (
        refl,
        λ w lent. (
          record { engine = refl; number = refl; counter = refl },
          (
            refl,
            λ t a p old holds named in_table.
                named_set g.H.GcHeap.KIND c.args.self.now t a p old w c.in-Ok-Some.id holds in_table (id_found g at t holds.place (values.at p) holds.holds named),
          ),
        ),
        tt,
      ),
      record {
        writes_back = tt;
        wrong_store = λ wrong. absurd (cc (sym c.in-Ok-Some.is ∙ c.host_id.ensures.wrong_store wrong));
        live = λ t r holds named.
            let under = host_under g.H.GcHeap.KIND c.args.self.now t holds.0 holds.1 r c.in-Ok-Some.id (id_found g at t holds.0 r holds.1 named) in
            under.is ∙ sym under.held ∙ sym c.host_mut.ensures.value ∙ ap option_copied_mut c.in-Some.is;
        gone = λ own t holds nothing. absurd (cc (sym c.in-Ok-Some.is ∙ c.host_id.ensures.gone own t holds nothing));
      },
    )

pub returns-in-None : goal.returns-in-None
returns-in-None g c =
    let at = (goal.at.returns-in-None g c).After-host_mut in (
      (refl, λ w none. absurd (cc none), refl),
      record {
        writes_back = tt;
        wrong_store = λ wrong. absurd (cc (sym c.in-Ok-Some.is ∙ c.host_id.ensures.wrong_store wrong));
        live = λ t r holds named.
            let under = host_under g.H.GcHeap.KIND c.args.self.now t holds.0 holds.1 r c.in-Ok-Some.id (id_found g at t holds.0 r holds.1 named) in
            absurd (none-some under.value (sym (ap option_copied_mut c.in-None.is) ∙ c.host_mut.ensures.value ∙ under.held));
        gone = λ own t holds nothing. absurd (cc (sym c.in-Ok-Some.is ∙ c.host_id.ensures.gone own t holds nothing));
      },
    )

pub returns-in-Ok-None : goal.returns-in-Ok-None
returns-in-Ok-None g c =
    let at = (goal.at.returns-in-Ok-None g c).After-host_id in (
      (refl, λ w none. absurd (cc none), refl),
      record {
        writes_back = tt;
        wrong_store = λ wrong. absurd (cc (sym c.in-Ok-None.is ∙ c.host_id.ensures.wrong_store wrong));
        live = λ t r holds named. (refl, found g at (Ok None) (c.in-Ok-None.is ∙ ap (λ (o : Option ℕ). Ok o) c.in-Ok-None.field-0-is) t holds.0 r holds.1 named);
        gone = λ own t holds nothing. absurd (cc (sym c.in-Ok-None.is ∙ c.host_id.ensures.gone own t holds nothing));
      },
    )

-- the fault is that of the look-up
fault_is : (a b : RootFault) (r : Result (Option ℕ) RootFault) → r ≡ Err a → r ≡ Err b → a ≡ b
fault_is a b r is is' = let both : ◌≡◌ {A = Result (Option ℕ) RootFault} (Err a) (Err b) = sym is ∙ is' in cc both

pub returns-in-Err : goal.returns-in-Err
returns-in-Err g c =
    let at = (goal.at.returns-in-Err g c).After-host_id in (
      (refl, λ w none. absurd (cc none), refl),
      record {
        writes_back = tt;
        wrong_store = λ wrong. c.from.ensures ∙ ap told_of_host (fault_is c.in-Err.fault root_fault.WrongStore c.host_id.result c.in-Err.is (c.host_id.ensures.wrong_store wrong));
        live = λ t r holds named. absurd (found g at (Err c.in-Err.fault) c.in-Err.is t holds.0 r holds.1 named);
        gone = λ own t holds nothing. c.from.ensures ∙ ap told_of_host (fault_is c.in-Err.fault root_fault.Unrooted c.host_id.result c.in-Err.is (c.host_id.ensures.gone own t holds nothing));
      },
    )
