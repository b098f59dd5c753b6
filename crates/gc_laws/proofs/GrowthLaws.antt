-- The policy of growth over a copying or a null heap decides, under a limit that is told: from states whose stores' accounts are
-- alike it leaves such states.
use Rattle.std.proofs.Common.{◌≡◌, ℕ, ◌+◌, ◌*◌, ◌/◌, ◌<◌, ◌≤◌, ◌-◌, ◌^◌, min, Bool, true, false, cond, nat_eq, List, Option, Some, map, sum, inl, inr, refl, sym, ap, ap₂, ◌∙◌, subst, arith}
use Rattle.gc_types.specs.declared.kind.Layouts.{Layouts}
use Rattle.gc_types.specs.declared.kind.Layouts.TheVariants.{Null, Counting, Copying}
use Rattle.gc_types.specs.Layouts.{round_up}
use Rattle.gc_model.specs.Table.{Table}
use Rattle.gc_view.specs.Sizes.{alignment, need_of}
use Rattle.gc_model.specs.Reach.{AreAll, IsKept}
use Rattle.gc_view.specs.Pages.{page}
use Rattle.gc_model.specs.Allocation.{FitsBump, Limits, asked, skipped, MayHave, MayRefuse}
use Rattle.gc_model.specs.Accounts.{Account, is_due}
use Rattle.gc_owner.specs.Growing as growth
use Rattle.gc_owner.specs.Growing.{AsksFirst, AsksPages}
use Rattle.gc_model.specs.Policy.{PolicyState, FitsNow, LacksNow, CollectsTable, ReadiesTable, GrowsTable, MakesTable, Dues, Prepares, ExpandsTable, table_rules, table_after, table_made, block_bytes_at, allocated_bytes, turned, count_try, tried, nothing, grows}
use Rattle.gc_model.specs.Policy as policy
use Rattle.gc_store.specs.Expansion.{MayCollectTable}
use Rattle.gc_laws.proofs.SumLemmas.{same_sums}
use Rattle.gc_laws.proofs.RetryLaws.{differ, Decides, retries_alike}

-- The accounts are the same but for the order of the positions that are held.
pub record AlikeAccounts (a b : Account) : Type 0 where
  pub held : (f : ℕ → ℕ) → sum (map f a.held) ≡ sum (map f b.held)
  pub last : a.last ≡ b.last
  pub tries : a.tries ≡ b.tries
  pub upper : a.upper ≡ b.upper

-- The states are the same but for that, and their limit is told.
pub record AlikePolicies (most : ℕ) (p q : PolicyState ℕ) : Type 0 where
  pub table : p.table ≡ q.table
  pub account : AlikeAccounts p.account q.account
  pub limits : p.limits ≡ q.limits
  pub told : p.limits.limit ≡ Some most

pub same_accounts : (a : Account) → AlikeAccounts a a
same_accounts a = record { held = λ f. refl; last = refl; tries = refl; upper = refl }

pub alike_at : (a a' b b' : Account) → a' ≡ a → b' ≡ b → AlikeAccounts a b → AlikeAccounts a' b'
alike_at a a' b b' one other alike = subst (λ (x : Account). AlikeAccounts x b') (sym one) (subst (AlikeAccounts a) (sym other) alike)

module _ (limit : Option ℕ) (most : ℕ) (told : limit ≡ Some most) (n : ℕ) where
  has : MayHave limit n → n ≤ most
  has may = subst (λ (l : Option ℕ). MayHave l n) told may

  above : MayRefuse limit n → most < n
  above may = subst (λ (l : Option ℕ). MayRefuse l n) told may

-- asking for the first pages is decided
asks_first : (is_made : Bool) (first most : ℕ) (limits l l' : Limits) (granted granted' : Bool) → limits.limit ≡ Some most → AsksFirst is_made first limits granted l → AsksFirst is_made first limits granted' l' → (granted ≡ granted') × (l ≡ l')
asks_first is_made first most limits l l' g g' told (growth.already made) (growth.already made') = (refl, refl)
asks_first is_made first most limits l l' g g' told (growth.already made) (growth.granted unmade may) = absurd (differ is_made made unmade)
asks_first is_made first most limits l l' g g' told (growth.already made) (growth.refused unmade some may refuses) = absurd (differ is_made made unmade)
asks_first is_made first most limits l l' g g' told (growth.granted unmade may) (growth.already made) = absurd (differ is_made made unmade)
asks_first is_made first most limits l l' g g' told (growth.granted unmade may) (growth.granted unmade' may') = (refl, refl)
asks_first is_made first most limits l l' g g' told (growth.granted unmade may) (growth.refused unmade' some may' refuses) = absurd (let under = has limits.limit most told first may in let over = above limits.limit most told first may' in omega arith)
asks_first is_made first most limits l l' g g' told (growth.refused unmade some may refuses) (growth.already made) = absurd (differ is_made made unmade)
asks_first is_made first most limits l l' g g' told (growth.refused unmade some may refuses) (growth.granted unmade' may') = absurd (let under = has limits.limit most told first may' in let over = above limits.limit most told first may in omega arith)
asks_first is_made first most limits l l' g g' told (growth.refused unmade some may refuses) (growth.refused unmade' some' may' refuses') = (refl, refuses ∙ sym refuses')

first_keeps : (is_made : Bool) (first : ℕ) (limits l : Limits) (granted : Bool) → AsksFirst is_made first limits granted l → l.limit ≡ limits.limit
first_keeps is_made first limits l g (growth.already made) = refl
first_keeps is_made first limits l g (growth.granted unmade may) = refl
first_keeps is_made first limits l g (growth.refused unmade some may refuses) = ap (λ (x : Limits). x.limit) refuses

-- asking for the pages of a growth is decided
asks_pages : (pages bytes most : ℕ) (limits l l' : Limits) (granted granted' : Bool) → limits.limit ≡ Some most → AsksPages pages bytes limits granted l → AsksPages pages bytes limits granted' l' → (granted ≡ granted') × (l ≡ l')
asks_pages pages bytes most limits l l' g g' told (growth.unasked over) (growth.unasked over') = (refl, refl)
asks_pages pages bytes most limits l l' g g' told (growth.unasked over) (growth.refused within may refuses) = absurd (omega arith)
asks_pages pages bytes most limits l l' g g' told (growth.unasked over) (growth.granted may) = absurd (let within = may.within in omega arith)
asks_pages pages bytes most limits l l' g g' told (growth.refused within may refuses) (growth.unasked over) = absurd (omega arith)
asks_pages pages bytes most limits l l' g g' told (growth.refused within may refuses) (growth.refused within' may' refuses') = (refl, refuses ∙ sym refuses')
asks_pages pages bytes most limits l l' g g' told (growth.refused within may refuses) (growth.granted may') = absurd (let under = has limits.limit most told (pages + asked pages bytes) may'.granted in let over = above limits.limit most told (pages + asked pages bytes) may in omega arith)
asks_pages pages bytes most limits l l' g g' told (growth.granted may) (growth.unasked over) = absurd (let within = may.within in omega arith)
asks_pages pages bytes most limits l l' g g' told (growth.granted may) (growth.refused within may' refuses) = absurd (let under = has limits.limit most told (pages + asked pages bytes) may.granted in let over = above limits.limit most told (pages + asked pages bytes) may' in omega arith)
asks_pages pages bytes most limits l l' g g' told (growth.granted may) (growth.granted may') = (refl, refl)

pages_keep : (pages bytes : ℕ) (limits l : Limits) (granted : Bool) → AsksPages pages bytes limits granted l → l.limit ≡ limits.limit
pages_keep pages bytes limits l g (growth.unasked over) = refl
pages_keep pages bytes limits l g (growth.refused within may refuses) = ap (λ (x : Limits). x.limit) refuses
pages_keep pages bytes limits l g (growth.granted may) = refl

-- whether there is room is decided, where no place is told
fits_alike : (k : Layouts) → ¬ (k ≡ Counting) → (size : ℕ) (p q : PolicyState ℕ) → p.table ≡ q.table → ((f : ℕ → ℕ) → sum (map f p.account.held) ≡ sum (map f q.account.held)) → FitsNow k size p → FitsNow k size q
fits_alike Null told_nowhere size p q table held fits = subst (λ (t : Table ℕ). FitsBump t size) table fits
fits_alike Counting told_nowhere size p q table held fits = absurd (told_nowhere refl)
fits_alike Copying told_nowhere size p q table held fits =
    let blocks = ap (λ (t : Table ℕ). sum (map (block_bytes_at Copying t) p.account.held)) table ∙ held (block_bytes_at Copying q.table) in
    let pages : p.table.pages ≡ q.table.pages = ap (λ (t : Table ℕ). t.pages) table in
    let room : skipped + sum (map (block_bytes_at Copying p.table) p.account.held) + round_up size alignment ≤ page / 2 * p.table.pages = fits in
    omega arith

-- so are the bytes that are allocated
allocated_alike : (k : Layouts) (t : Table ℕ) (xs ys : List ℕ) → ((f : ℕ → ℕ) → sum (map f xs) ≡ sum (map f ys)) → allocated_bytes k t xs ≡ allocated_bytes k t ys
allocated_alike Null t xs ys held = refl
allocated_alike Counting t xs ys held = held (block_bytes_at Counting t)
allocated_alike Copying t xs ys held = ap (λ (n : ℕ). cond (nat_eq t.pages 0) 0 (skipped + n)) (held (block_bytes_at Copying t))

module _ (k : Layouts) (told_nowhere : ¬ (k ≡ Counting)) (most : ℕ) where
  alike_policies_at : (p q p' q' : PolicyState ℕ) → p' ≡ p → q' ≡ q → AlikePolicies most p q → AlikePolicies most p' q'
  alike_policies_at p q p' q' one other alike = subst (λ (x : PolicyState ℕ). AlikePolicies most x q') (sym one) (subst (AlikePolicies most p) (sym other) alike)

  fits_too : (size : ℕ) (p q : PolicyState ℕ) → AlikePolicies most p q → FitsNow k size p → FitsNow k size q
  fits_too size p q alike fits = fits_alike k told_nowhere size p q alike.table alike.account.held fits

  fits_back : (size : ℕ) (p q : PolicyState ℕ) → AlikePolicies most p q → FitsNow k size q → FitsNow k size p
  fits_back size p q alike fits = fits_alike k told_nowhere size q p (sym alike.table) (λ f. sym (alike.account.held f)) fits

  collects_alike : (p q p' q' : PolicyState ℕ) → AlikePolicies most p q → CollectsTable k p p' → CollectsTable k q q' → AlikePolicies most p' q'
  collects_alike p q p' q' alike one other =
      let held = same_sums (IsKept k q.table) p'.account.held q'.account.held (subst (λ (t : Table ℕ). AreAll (IsKept k t) p'.account.held) alike.table one.held) other.held in
      record {
        table = one.table ∙ alike.table ∙ sym other.table;
        account = record {
          held = held;
          last = one.last
              ∙ ap (λ (t : Table ℕ). allocated_bytes k t p'.account.held) alike.table
              ∙ allocated_alike k q.table p'.account.held q'.account.held held
              ∙ sym other.last;
          tries = one.tries ∙ alike.account.tries ∙ sym other.tries;
          upper = one.upper ∙ ap (turned k) alike.account.upper ∙ sym other.upper;
        };
        limits = one.limits ∙ alike.limits ∙ sym other.limits;
        told = ap (λ (l : Limits). l.limit) one.limits ∙ alike.told;
      }

  readies_alike : (p q p' q' : PolicyState ℕ) → AlikePolicies most p q → ReadiesTable k p p' → ReadiesTable k q q' → AlikePolicies most p' q'
  readies_alike p q p' q' alike (inl (up, one)) (inl (up', other)) = collects_alike p q p' q' alike one other
  readies_alike p q p' q' alike (inl (up, one)) (inr (down, other)) = absurd (differ q.account.upper (sym alike.account.upper ∙ up) down)
  readies_alike p q p' q' alike (inr (down, one)) (inl (up, other)) = absurd (differ q.account.upper up (sym alike.account.upper ∙ down))
  readies_alike p q p' q' alike (inr (down, one)) (inr (down', other)) = alike_policies_at p q p' q' one other alike

  grows_alike : (bytes : ℕ) (p q p' q' : PolicyState ℕ) (granted granted' : Bool) → AlikePolicies most p q → GrowsTable k bytes p granted p' → GrowsTable k bytes q granted' q' → (granted ≡ granted') × AlikePolicies most p' q'
  grows_alike bytes p q p' q' granted granted' alike one other =
      let ready = readies_alike p q one.ready other.ready alike one.readied other.readied in
      let asks : AsksPages one.ready.table.pages bytes one.ready.limits granted' q'.limits =
      subst (λ (n : ℕ). AsksPages n bytes one.ready.limits granted' q'.limits) (ap (λ (t : Table ℕ). t.pages) (sym ready.table))
      (subst (λ (l : Limits). AsksPages other.ready.table.pages bytes l granted' q'.limits) (sym ready.limits) other.asks) in
      let same = asks_pages one.ready.table.pages bytes most one.ready.limits p'.limits q'.limits granted granted' ready.told one.asks asks in (
        same.0,
        record {
          table = ap (λ (x : PolicyState ℕ). x.table) one.after ∙ ap₂ (λ (g : Bool) (t : Table ℕ). table_after g bytes t) same.0 ready.table ∙ sym (ap (λ (x : PolicyState ℕ). x.table) other.after);
          account = alike_at one.ready.account p'.account other.ready.account q'.account (ap (λ (x : PolicyState ℕ). x.account) one.after) (ap (λ (x : PolicyState ℕ). x.account) other.after) ready.account;
          limits = same.1;
          told = pages_keep one.ready.table.pages bytes one.ready.limits p'.limits granted one.asks ∙ ready.told;
        },
      )

  first_alike : (size : ℕ) (p q : PolicyState ℕ) → AlikePolicies most p q → growth.collects_first (need_of k size) (page * p.table.pages) p.account.last ≡ growth.collects_first (need_of k size) (page * q.table.pages) q.account.last
  first_alike size p q alike = ap₂ (λ (t : Table ℕ) (last : ℕ). growth.collects_first (need_of k size) (page * t.pages) last) alike.table alike.account.last

  decides : (size : ℕ) → Decides (table_rules k size) (AlikePolicies most)
  decides size = record {
    apart = λ p q alike fits lacks. lacks (fits_too size p q alike fits);
    apart_too = λ p q alike lacks fits. lacks (fits_back size p q alike fits);
    first = first_alike size;
    collects = collects_alike;
    grows = grows_alike (need_of k size);
  }

  makes_alike : (p q p' q' : PolicyState ℕ) (granted granted' : Bool) → AlikePolicies most p q → MakesTable p granted p' → MakesTable q granted' q' → (granted ≡ granted') × AlikePolicies most p' q'
  makes_alike p q p' q' granted granted' alike one other =
      let asks : AsksFirst p.table.made p.table.first p.limits granted' q'.limits =
      subst (λ (t : Table ℕ). AsksFirst t.made t.first p.limits granted' q'.limits) (sym alike.table)
      (subst (λ (l : Limits). AsksFirst q.table.made q.table.first l granted' q'.limits) (sym alike.limits) other.asks) in
      let same = asks_first p.table.made p.table.first most p.limits p'.limits q'.limits granted granted' alike.told one.asks asks in (
        same.0,
        record {
          table = ap (λ (x : PolicyState ℕ). x.table) one.after ∙ ap₂ (λ (g : Bool) (t : Table ℕ). table_made g t) same.0 alike.table ∙ sym (ap (λ (x : PolicyState ℕ). x.table) other.after);
          account = alike_at p.account p'.account q.account q'.account (ap (λ (x : PolicyState ℕ). x.account) one.after) (ap (λ (x : PolicyState ℕ). x.account) other.after) alike.account;
          limits = same.1;
          told = first_keeps p.table.made p.table.first p.limits p'.limits granted one.asks ∙ alike.told;
        },
      )

  dues_alike : (counter : Option ℕ) (p q p' q' : PolicyState ℕ) → AlikePolicies most p q → Dues k counter p p' → Dues k counter q q' → AlikePolicies most p' q'
  dues_alike counter p q p' q' alike (inl (due, one)) (inl (due', other)) = collects_alike p q p' q' alike one other
  dues_alike counter p q p' q' alike (inl (due, one)) (inr (not_due, other)) = absurd (differ (is_due counter q.account.tries) (sym (ap (is_due counter) alike.account.tries) ∙ due) not_due)
  dues_alike counter p q p' q' alike (inr (not_due, one)) (inl (due, other)) = absurd (differ (is_due counter q.account.tries) due (sym (ap (is_due counter) alike.account.tries) ∙ not_due))
  dues_alike counter p q p' q' alike (inr (not_due, one)) (inr (not_due', other)) = alike_policies_at p q p' q' one other alike

  counts_alike : (p q : PolicyState ℕ) → AlikePolicies most p q → AlikePolicies most (count_try p) (count_try q)
  counts_alike p q alike = record {
    table = alike.table;
    account = record { held = alike.account.held; last = alike.account.last; tries = ap (λ (n : ℕ). min (n + 1) (2 ^ 64 - 1)) alike.account.tries; upper = alike.account.upper };
    limits = alike.limits;
    told = alike.told;
  }

  -- what comes before an object is made is decided, and whether it is
  pub prepares_alike : (counter : Option ℕ) (size : ℕ) (p q p' q' : PolicyState ℕ) (ok ok' : Bool) → AlikePolicies most p q → Prepares k counter size p ok p' → Prepares k counter size q ok' q' → (ok ≡ ok') × AlikePolicies most p' q'
  prepares_alike counter size p q p' q' ok ok' alike (policy.no_heap one) (policy.no_heap other) = makes_alike (count_try p) (count_try q) p' q' false false (counts_alike p q alike) one other
  prepares_alike counter size p q p' q' ok ok' alike (policy.no_heap one) (tried {m = m} makes dues retry) = absurd (differ false (makes_alike (count_try p) (count_try q) p' m false true (counts_alike p q alike) one makes).0 refl)
  prepares_alike counter size p q p' q' ok ok' alike (tried {m = m} makes dues retry) (policy.no_heap other) = absurd (differ true refl (makes_alike (count_try p) (count_try q) m q' true false (counts_alike p q alike) makes other).0)
  prepares_alike counter size p q p' q' ok ok' alike (tried {m = m} {n = n} makes dues retry) (tried {m = m'} {n = n'} makes' dues' retry') =
      let made = makes_alike (count_try p) (count_try q) m m' true true (counts_alike p q alike) makes makes' in
      let due = dues_alike counter m m' n n' made.1 dues dues' in
      retries_alike (table_rules k size) (AlikePolicies most) (decides size) n n' p' q' ok ok' due retry retry'

  -- a growth is decided
  pub expands_alike : (bytes : ℕ) (p q p' q' : PolicyState ℕ) (granted granted' : Bool) → AlikePolicies most p q → ExpandsTable k bytes p granted p' → ExpandsTable k bytes q granted' q' → (granted ≡ granted') × AlikePolicies most p' q'
  expands_alike bytes p q p' q' g g' alike (nothing none) (nothing none') = (refl, alike)
  expands_alike bytes p q p' q' g g' alike (nothing none) (policy.no_heap some other) = absurd (omega arith)
  expands_alike bytes p q p' q' g g' alike (nothing none) (grows some makes grown) = absurd (omega arith)
  expands_alike bytes p q p' q' g g' alike (policy.no_heap some one) (nothing none) = absurd (omega arith)
  expands_alike bytes p q p' q' g g' alike (policy.no_heap some one) (policy.no_heap some' other) = makes_alike p q p' q' false false alike one other
  expands_alike bytes p q p' q' g g' alike (policy.no_heap some one) (grows {m = m} some' makes grown) = absurd (differ false (makes_alike p q p' m false true alike one makes).0 refl)
  expands_alike bytes p q p' q' g g' alike (grows some makes grown) (nothing none) = absurd (omega arith)
  expands_alike bytes p q p' q' g g' alike (grows {m = m} some makes grown) (policy.no_heap some' other) = absurd (differ true refl (makes_alike p q m q' true false alike makes other).0)
  expands_alike bytes p q p' q' g g' alike (grows {m = m} some makes grown) (grows {m = n} some' makes' grown') =
      grows_alike bytes m n p' q' g g' (makes_alike p q m n true true alike makes makes').1 grown grown'

  -- a collection where the heap is made is decided
  pub may_collect_alike : (p q p' q' : PolicyState ℕ) → AlikePolicies most p q → MayCollectTable k p p' → MayCollectTable k q q' → AlikePolicies most p' q'
  may_collect_alike p q p' q' alike (inl (made, one)) (inl (made', other)) = collects_alike p q p' q' alike one other
  may_collect_alike p q p' q' alike (inl (made, one)) (inr (unmade, other)) = absurd (differ q.table.made (sym (ap (λ (t : Table ℕ). t.made) alike.table) ∙ made) unmade)
  may_collect_alike p q p' q' alike (inr (unmade, one)) (inl (made, other)) = absurd (differ q.table.made made (sym (ap (λ (t : Table ℕ). t.made) alike.table) ∙ unmade))
  may_collect_alike p q p' q' alike (inr (unmade, one)) (inr (unmade', other)) = alike_policies_at p q p' q' one other alike
