-- A run by the policy is a run.
use Rattle.std.proofs.Common.{inl, inr, ◌≡◌, ℕ, List, [], ◌∷◌, Option, Some, None, refl, sym, ap, ◌∙◌, subst}
use Rattle.gc_types.specs.declared.kind.Layouts.{Layouts}
use Rattle.gc_view.specs.Sizes.{need_of}
use Rattle.gc_model.specs.Sizes.{object_size}
use Rattle.gc_model.specs.Allocation.{Limits}
use Rattle.gc_model.specs.Table.{Table}
use Rattle.gc_model.specs.Values.{Object}
use Rattle.gc_store.specs.Expansion.{MayCollectTable}
use Rattle.gc_model.specs.Policy.{PolicyState}
use Rattle.gc_commands.specs.declared.command.Command.{Command}
use Rattle.gc_commands.specs.declared.reply.Reply.{Reply}
use Rattle.gc_commands.specs.declared.reply.Refusal.{Refusal}
use Rattle.gc_script.specs.State.{State}
use Rattle.gc_script.specs.Shapes.{CommandShape, making, growing, collecting, shape}
use Rattle.gc_script.specs.Steps.{tests, first_failing}
use Rattle.gc_script.specs.Policy.{policy_of, AllocatesByPolicy, GrowsByPolicy, FollowsDoing, FollowsTested, Follows, RunByPolicy}
use Rattle.gc_script.specs.Policy as policy
use Rattle.gc_script.specs.Run.{Run}
use Rattle.gc_script.proofs.AskLemmas.{AsksBy, unrefused, too_many, refused_pages, refused_first, prepares_asks, expands_asks}

asks_limit : (bytes : ℕ) {ok : Rattle.std.proofs.Common.Bool} (limits limits' : Limits) (t : Table ℕ) → AsksBy bytes ok limits limits' t → limits'.limit ≡ limits.limit
asks_limit bytes limits limits' t (unrefused is same) = ap (λ (l : Limits). l.limit) same
asks_limit bytes limits limits' t (too_many made many same) = ap (λ (l : Limits). l.limit) same
asks_limit bytes limits limits' t (refused_pages made few refuses) = ap (λ (l : Limits). l.limit) refuses
asks_limit bytes limits limits' t (refused_first is unmade refuses) = ap (λ (l : Limits). l.limit) refuses

new_limit : (layouts : Layouts) (counter : Option ℕ) (o : Object ℕ) (s : State) (limits : Limits) (answer : Reply) (s' : State) (limits' : Limits) → AllocatesByPolicy layouts counter o s limits answer s' limits' → limits'.limit ≡ limits.limit
new_limit layouts counter o s limits answer s' limits' (policy.made {p = p} word done prepares lies is) =
    ap (λ (l : Limits). l.limit) is.limits_are ∙ asks_limit (need_of layouts (object_size layouts s.table.types o)) limits p.limits p.table (prepares_asks layouts counter (object_size layouts s.table.types o) (policy_of s limits) prepares)
new_limit layouts counter o s limits answer s' limits' (policy.refused {p = p} not_done prepares is) =
    ap (λ (l : Limits). l.limit) is.limits_are ∙ asks_limit (need_of layouts (object_size layouts s.table.types o)) limits p.limits p.table (prepares_asks layouts counter (object_size layouts s.table.types o) (policy_of s limits) prepares)

grow_limit : (layouts : Layouts) (bytes : ℕ) (s : State) (limits : Limits) (answer : Reply) (s' : State) (limits' : Limits) → GrowsByPolicy layouts bytes s limits answer s' limits' → limits'.limit ≡ limits.limit
grow_limit layouts bytes s limits answer s' limits' (policy.grown {p = p} done expands is) =
    ap (λ (l : Limits). l.limit) is.limits_are ∙ asks_limit bytes limits p.limits p.table (expands_asks layouts bytes (policy_of s limits) expands)
grow_limit layouts bytes s limits answer s' limits' (policy.refused {p = p} not_done expands is) =
    ap (λ (l : Limits). l.limit) is.limits_are ∙ asks_limit bytes limits p.limits p.table (expands_asks layouts bytes (policy_of s limits) expands)

collection_limit : (layouts : Layouts) (p q : PolicyState ℕ) → MayCollectTable layouts p q → q.limits.limit ≡ p.limits.limit
collection_limit layouts p q (inl ran) = ap (λ (l : Limits). l.limit) ran.1.limits
collection_limit layouts p q (inr none) = ap (λ (x : PolicyState ℕ). x.limits.limit) none.1

doing_limit : (layouts : Layouts) (counter : Option ℕ) (s : State) (limits : Limits) (sh : CommandShape) (answer : Reply) (s' : State) (limits' : Limits) → FollowsDoing layouts counter s limits sh answer s' limits' → limits'.limit ≡ limits.limit
doing_limit layouts counter s limits (making d class object) answer s' limits' follows = new_limit layouts counter _ s limits answer s' limits' follows
doing_limit layouts counter s limits (collecting told) answer s' limits' follows = collection_limit layouts (policy_of s limits) (policy_of s' limits') follows
doing_limit layouts counter s limits (growing n) answer s' limits' follows = grow_limit layouts n s limits answer s' limits' follows
doing_limit layouts counter s limits sh answer s' limits' follows = ap (λ (l : Limits). l.limit) follows.same_limits

tested_limit : (layouts : Layouts) (counter : Option ℕ) (s : State) (limits : Limits) (sh : CommandShape) (found : Option Refusal) (answer : Reply) (s' : State) (limits' : Limits) → FollowsTested layouts counter s limits sh found answer s' limits' → limits'.limit ≡ limits.limit
tested_limit layouts counter s limits sh (Some why) answer s' limits' follows = ap (λ (l : Limits). l.limit) follows.same_limits
tested_limit layouts counter s limits sh None answer s' limits' follows = doing_limit layouts counter s limits sh answer s' limits' follows

-- a step by the policy leaves the limit
pub follows_limit : (layouts : Layouts) (counter : Option ℕ) (s : State) (limits : Limits) (c : Command) (answer : Reply) (s' : State) (limits' : Limits) → Follows layouts counter s limits c answer s' limits' → limits'.limit ≡ limits.limit
follows_limit layouts counter s limits c answer s' limits' follows = tested_limit layouts counter s limits (shape c) (first_failing (tests layouts s c)) answer s' limits' follows

-- each step of a run by the policy is one of a run
pub policy_run : (layouts : Layouts) (counter : Option ℕ) (s : State) (limits : Limits) (cs : List Command) (rs : List Reply) (s' : State) (limits' : Limits) → RunByPolicy layouts counter s limits cs rs s' limits' → Run layouts limits.limit s cs rs s'
policy_run layouts counter s limits [] [] s' limits' run = run.0
policy_run layouts counter s limits [] (r ∷ rs) s' limits' run = absurd run
policy_run layouts counter s limits (c ∷ cs) [] s' limits' run = absurd run
policy_run layouts counter s limits (c ∷ cs) (r ∷ rs) s' limits' (mid, between, (step, (follows, rest))) =
    (mid, (step, subst (λ (l : Option ℕ). Run layouts l mid cs rs s') (follows_limit layouts counter s limits c r mid between follows) (policy_run layouts counter mid between cs rs s' limits' rest)))
