-- What a command leaves of the limiter's count.
use Rattle.std.proofs.Common.{inl, inr, ◌≡◌, ℕ, ◌+◌, ◌++◌, if◌then◌else◌, List, [], ◌∷◌, Some, Bool, true, false, cond, sym, ap, ◌∙◌, refl, subst, arith}
use Rattle.gc_model.specs.Allocation.{Limits, asked}
use Rattle.gc_owner.specs.Limiters.{Refuses}
use Rattle.gc_commands.specs.declared.reply.Reply.{Reply}
use Rattle.gc_commands.specs.declared.reply.Reply.TheVariants as reply
use Rattle.gc_commands.specs.declared.reply.Refusal.{Refusal}
use Rattle.gc_commands.specs.declared.reply.Refusal.TheVariants as refusal
use Rattle.gc_script.specs.State.{State}
use Rattle.gc_script.specs.Steps.{first_failing}
use Rattle.gc_script.specs.Run.{SaysRefused, LimiterCounts, told, overlooked, nothing, pages_asked}
use Rattle.gc_script.proofs.AskLemmas.{AsksBy, unrefused, too_many, refused_pages, refused_first}

-- whether a refusal says that the heap was refused pages
abbrev pub tells_pages : Refusal → Bool
tells_pages refusal.GcHeapOutOfMemory = true
tells_pages refusal.GcHeapGrowthFailed = true
tells_pages _ = false

-- whether a reply says so
abbrev pub tells : Reply → Bool
tells (reply.Refused why) = tells_pages why
tells _ = false

-- a reply that is known doesn't say so
pub says_other : (answer known : Reply) → answer ≡ known → tells known ≡ false → ¬ SaysRefused answer
says_other answer known is mild (inl says) = let both : false ≡ true = sym mild ∙ (sym (ap tells is) ∙ ap tells says) in cc both
says_other answer known is mild (inr says) = let both : false ≡ true = sym mild ∙ (sym (ap tells is) ∙ ap tells says) in cc both

-- whether no test refuses so
abbrev pub are_mild : List (Bool × Refusal) → Bool
are_mild [] = true
are_mild (t ∷ ts) = if tells_pages t.1 then false else are_mild ts

both_mild : (told rest : Bool) → cond told false rest ≡ true → (told ≡ false) × (rest ≡ true)
both_mild true rest e = absurd (cc e)
both_mild false rest e = (refl, e)

pub mild_found : (ts : List (Bool × Refusal)) (why : Refusal) → are_mild ts ≡ true → first_failing ts ≡ Some why → tells_pages why ≡ false
mild_found [] why mild e = absurd (cc e)
mild_found ((true, w) ∷ ts) why mild e = let is : w ≡ why = grind (arith, e) in sym (ap tells_pages is) ∙ (both_mild (tells_pages w) (are_mild ts) mild).0
mild_found ((false, w) ∷ ts) why mild e = mild_found ts why (both_mild (tells_pages w) (are_mild ts) mild).1 e

pub append_mild : (ts us : List (Bool × Refusal)) → are_mild ts ≡ true → are_mild us ≡ true → are_mild (ts ++ us) ≡ true
append_mild [] us one other = other
append_mild (t ∷ ts) us one other =
    let both = both_mild (tells_pages t.1) (are_mild ts) one in
    ap (λ (told : Bool). cond told false (are_mild (ts ++ us))) both.0 ∙ append_mild ts us both.1 other

module _ (bytes : ℕ) (limits limits' : Limits) (answer : Reply) (after : State) where
  -- a reply that says nothing of it, of a limiter that is as before
  pub counts_nothing : ¬ SaysRefused answer → limits' ≡ limits → LimiterCounts bytes limits limits' answer after
  counts_nothing other same = nothing (λ is_asked. other is_asked.says) same

  -- the pages for which a heap that is made was asked
  refused_made : after.table.made ≡ true → Refuses limits limits' after.table.pages (after.table.pages + asked after.table.pages bytes) → Refuses limits limits' (pages_asked after bytes).0 (pages_asked after bytes).1
  refused_made made refuses =
      subst (λ (x : ℕ × ℕ). Refuses limits limits' x.0 x.1)
      (sym (ap (λ b. cond b (after.table.pages, after.table.pages + asked after.table.pages bytes) (0, after.table.first)) made)) refuses

  -- what was refused is told
  pub counts_refused : SaysRefused answer → AsksBy bytes false limits limits' after.table → LimiterCounts bytes limits limits' answer after
  counts_refused says (unrefused ok same) = absurd (cc ok)
  counts_refused says (too_many made past same) = nothing (λ is_asked. let within = is_asked.within made in omega (arith, within, past)) same
  counts_refused says (refused_pages made within refuses) = told (record { says = says; within = λ _. within }) (refused_made made refuses)
  counts_refused says (refused_first not_ok unmade refuses) =
      told (record { says = says; within = λ made. absurd (cc (unmade, made)) })
      (subst (λ (x : ℕ × ℕ). Refuses limits limits' x.0 x.1)
      (sym (ap (λ b. cond b (after.table.pages, after.table.pages + asked after.table.pages bytes) (0, after.table.first)) unmade)) refuses)

  -- what was refused on the way of a command that went well is overlooked
  pub counts_done : answer ≡ reply.Done → AsksBy bytes true limits limits' after.table → LimiterCounts bytes limits limits' answer after
  counts_done done (unrefused ok same) = counts_nothing (says_other answer reply.Done done refl) same
  counts_done done (too_many made past same) = counts_nothing (says_other answer reply.Done done refl) same
  counts_done done (refused_pages made within refuses) = overlooked done (refused_made made refuses)
  counts_done done (refused_first bad unmade refuses) = absurd (cc bad)
