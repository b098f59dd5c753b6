-- Objects that follow each other.
use Rattle.std.proofs.Common.{◌≡◌, ℕ, zero, suc, cond, length, ◌+◌, ◌*◌, ◌%◌, ◌<◌, ◌≤◌, List, [], ◌∷◌, ◌++◌, refl, sym, ap, subst, ◌∙◌, arith}
use Rattle.std.proofs.lemmas.Bool.{lt-ltb, le-ltb}
use Rattle.gc_view.specs.Sizes.{alignment}
use Rattle.gc_memory.specs.Lists.{In, here, there, sum_over, occ}
use Rattle.gc_memory.specs.Chains.{Chain, done, next, bounded_places, places}
use Rattle.gc_memory.proofs.ListLemmas.{sum_over-same, occ-same, occ-other, occ-none}

-- objects don't end before they begin
pub Chain-end : (size : ℕ → ℕ) (a e : ℕ) (ps : List ℕ) → Chain size a e ps → a ≤ e
Chain-end size a _ [] done = omega arith
Chain-end size a e (_ ∷ ps) (next l w c) = omega (arith, Chain-end size (a + size a) e ps c)

-- they take as many bytes as their sizes say
pub Chain-sum : (size : ℕ → ℕ) (a e : ℕ) (ps : List ℕ) → Chain size a e ps → a + sum_over size ps ≡ e
Chain-sum size a _ [] done = omega arith
Chain-sum size a e (_ ∷ ps) (next l w c) = omega (arith, Chain-sum size (a + size a) e ps c)

-- they end at a multiple of 16 where they begin at one
pub Chain-aligned : (size : ℕ → ℕ) (a e : ℕ) (ps : List ℕ) → Chain size a e ps → a % alignment ≡ 0 → e % alignment ≡ 0
Chain-aligned size a _ [] done h = h
Chain-aligned size a e (_ ∷ ps) (next l w c) h = Chain-aligned size (a + size a) e ps c (omega arith)

-- where an object of a chain lies
pub record LiesInChain (size : ℕ → ℕ) (a e p : ℕ) : Type 0 where
  pub from : a ≤ p
  pub to : p + size p ≤ e
  pub least : alignment ≤ size p
  pub whole : size p % alignment ≡ 0
  pub aligned : a % alignment ≡ 0 → p % alignment ≡ 0

pub Chain-lies : (size : ℕ → ℕ) (a e p : ℕ) (ps : List ℕ) → Chain size a e ps → In p ps → LiesInChain size a e p
Chain-lies size a e p [] c i = elim i [ ]
Chain-lies size a e _ (_ ∷ ps) (next l w c) here = record {
  from = omega arith;
  to = Chain-end size (a + size a) e ps c;
  least = l;
  whole = w;
  aligned = λ h. h;
}
Chain-lies size a e p (_ ∷ ps) (next l w c) (there i) =
    let r = Chain-lies size (a + size a) e p ps c i in
    record {
      from = omega (arith, r.from);
      to = r.to;
      least = r.least;
      whole = r.whole;
      aligned = λ h. r.aligned (omega arith);
    }

-- of two objects the one ends before the other begins
pub Chain-apart : (size : ℕ → ℕ) (a e p q : ℕ) (ps : List ℕ) → Chain size a e ps → In p ps → In q ps → p < q → p + size p ≤ q
Chain-apart size a e p q [] c i j h = elim i [ ]
Chain-apart size a e _ _ (_ ∷ ps) (next l w c) here here h = omega arith
Chain-apart size a e _ q (_ ∷ ps) (next l w c) here (there j) h = omega (arith, (Chain-lies size (a + size a) e q ps c j).from)
Chain-apart size a e p _ (_ ∷ ps) (next l w c) (there i) here h = omega (arith, (Chain-lies size (a + size a) e p ps c i).from)
Chain-apart size a e p q (_ ∷ ps) (next l w c) (there i) (there j) h = Chain-apart size (a + size a) e p q ps c i j h

-- objects behind objects
pub Chain-append : (size : ℕ → ℕ) (a b e : ℕ) (ps qs : List ℕ) → Chain size a b ps → Chain size b e qs → Chain size a e (ps ++ qs)
Chain-append size a _ e [] qs done d = d
Chain-append size a b e (_ ∷ ps) qs (next l w c) d = next l w (Chain-append size (a + size a) b e ps qs c d)

-- one more object at the end
pub Chain-push : (size : ℕ → ℕ) (a e : ℕ) (ps : List ℕ) → Chain size a e ps → alignment ≤ size e → size e % alignment ≡ 0
    → Chain size a (e + size e) (ps ++ (e ∷ []))
Chain-push size a e ps c l w = Chain-append size a e (e + size e) ps (e ∷ []) c (next l w done)

-- sizes that are equal at the places make the same chain
pub Chain-resized : (size other : ℕ → ℕ) (a e : ℕ) (ps : List ℕ) → Chain size a e ps → ((p : ℕ) → In p ps → other p ≡ size p) → Chain other a e ps
Chain-resized size other a _ [] done same = done
Chain-resized size other a e (_ ∷ ps) (next l w c) same =
    let s : size a ≡ other a = sym (same a here) in
    next (subst (λ (n : ℕ). alignment ≤ n) s l) (subst (λ (n : ℕ). n % alignment ≡ 0) s w)
    (subst (λ (n : ℕ). Chain other (a + n) e ps) s (Chain-resized size other (a + size a) e ps c (λ p i. same p (there i))))

same_places : (size : ℕ → ℕ) (a e f : ℕ) (ps qs : List ℕ) → Chain size a e ps → Chain size a f qs → e ≡ f → ps ≡ qs
same_places size a _ _ [] [] done done h = refl
same_places size a _ f [] (_ ∷ qs) done (next l w d) h = absurd (omega (arith, Chain-end size (a + size a) f qs d))
same_places size a e _ (_ ∷ ps) [] (next l w c) done h = absurd (omega (arith, Chain-end size (a + size a) e ps c))
same_places size a e f (_ ∷ ps) (_ ∷ qs) (next l w c) (next m x d) h = ap (λ rs. a ∷ rs) (same_places size (a + size a) e f ps qs c d h)

-- the places are a function of the sizes
pub Chain-unique : (size : ℕ → ℕ) (a e : ℕ) (ps qs : List ℕ) → Chain size a e ps → Chain size a e qs → ps ≡ qs
Chain-unique size a e ps qs c d = same_places size a e e ps qs c d refl

-- where the objects end at once there are none, else one is at the start
pub Chain-first : (size : ℕ → ℕ) (a e : ℕ) (ps : List ℕ) → Chain size a e ps → a < e → In a ps
Chain-first size a _ [] done h = absurd (omega arith)
Chain-first size a e (_ ∷ ps) (next l w c) h = here

-- behind an object is another one, or the end
pub Chain-next : (size : ℕ → ℕ) (a e p : ℕ) (ps : List ℕ) → Chain size a e ps → In p ps → p + size p < e → In (p + size p) ps
Chain-next size a e p [] c i h = elim i [ ]
Chain-next size a e _ (_ ∷ ps) (next l w c) here h = there (Chain-first size (a + size a) e ps c h)
Chain-next size a e p (_ ∷ ps) (next l w c) (there i) h = there (Chain-next size (a + size a) e p ps c i h)

-- A chain at one of its objects: those before it, and those behind.
pub record ChainAt (size : ℕ → ℕ) (a e p : ℕ) (ps : List ℕ) : Type 0 where
  pub before : List ℕ
  pub behind : List ℕ
  pub splits : ps ≡ before ++ (p ∷ behind)
  pub front : Chain size a p before
  pub back : Chain size (p + size p) e behind

pub Chain-split : (size : ℕ → ℕ) (a e p : ℕ) (ps : List ℕ) → Chain size a e ps → In p ps → ChainAt size a e p ps
Chain-split size a e p [] c i = elim i [ ]
Chain-split size a e _ (_ ∷ ps) (next l w c) here = record { before = []; behind = ps; splits = refl; front = done; back = c }
Chain-split size a e p (_ ∷ ps) (next l w c) (there i) =
    let s = Chain-split size (a + size a) e p ps c i in
    record {
      before = a ∷ s.before;
      behind = s.behind;
      splits = ap (λ qs. a ∷ qs) s.splits;
      front = next l w s.front;
      back = s.back;
    }

-- as many objects take at least 16 times as many bytes
pub Chain-length : (size : ℕ → ℕ) (a e : ℕ) (ps : List ℕ) → Chain size a e ps → a + 16 * length ps ≤ e
Chain-length size a _ [] done = omega arith
Chain-length size a e (_ ∷ ps) (next l w c) = omega (arith, Chain-length size (a + size a) e ps c)

places_are : (n : ℕ) (size : ℕ → ℕ) (a e : ℕ) (ps : List ℕ) → Chain size a e ps → length ps ≤ n → bounded_places n size a e ≡ ps
places_are zero size a _ [] done h = refl
places_are (suc n) size a _ [] done h = ap (λ b. cond b (a ∷ bounded_places n size (a + size a) a) []) (le-ltb a a (omega arith))
places_are zero size a e (_ ∷ ps) (next l w c) h = absurd (omega arith)
places_are (suc n) size a e (_ ∷ ps) (next l w c) h =
    ap (λ b. cond b (a ∷ bounded_places n size (a + size a) e) []) (lt-ltb a e (omega (arith, Chain-end size (a + size a) e ps c)))
    ∙ ap (λ qs. a ∷ qs) (places_are n size (a + size a) e ps c (omega arith))

-- the places that are read are those of the objects
pub Chain-places : (size : ℕ → ℕ) (a e : ℕ) (ps : List ℕ) → Chain size a e ps → places size a e ≡ ps
Chain-places size a e ps c = places_are e size a e ps c (omega (arith, Chain-length size a e ps c))

-- what changes at one object changes the sum by as much
pub Chain-changed : (size : ℕ → ℕ) (a e p : ℕ) (ps : List ℕ) (f g : ℕ → ℕ) → Chain size a e ps → In p ps
    → ((q : ℕ) → In q ps → (q ≡ p → ⊥) → g q ≡ f q) → sum_over g ps + f p ≡ sum_over f ps + g p
Chain-changed size a e p [] f g c i same = elim i [ ]
Chain-changed size a e _ (_ ∷ ps) f g (next l w c) here same =
    omega (arith, sum_over-same f g ps (λ q i. same q (there i) (λ h. omega (arith, (Chain-lies size (a + size a) e q ps c i).from))))
Chain-changed size a e p (_ ∷ ps) f g (next l w c) (there i) same =
    let head : g a ≡ f a = same a here (λ h. omega (arith, (Chain-lies size (a + size a) e p ps c i).from)) in
    omega (arith, Chain-changed size (a + size a) e p ps f g c i (λ q j. same q (there j)))

-- an object stands once in a chain
pub Chain-once : (size : ℕ → ℕ) (a e p : ℕ) (ps : List ℕ) → Chain size a e ps → In p ps → occ p ps ≡ 1
Chain-once size a e p [] c i = elim i [ ]
Chain-once size a e _ (_ ∷ ps) (next l w c) here =
    let none : occ a ps ≡ 0 = occ-none a ps (λ i. omega (arith, (Chain-lies size (a + size a) e a ps c i).from)) in
    omega (arith, occ-same a ps)
Chain-once size a e p (_ ∷ ps) (next l w c) (there i) =
    occ-other p a ps (λ h. omega (arith, (Chain-lies size (a + size a) e p ps c i).from)) ∙ Chain-once size (a + size a) e p ps c i
