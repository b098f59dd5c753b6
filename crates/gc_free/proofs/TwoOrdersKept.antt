-- What the two orders allow, and what keeps them.
use Rattle.std.proofs.Common.{ℕ, zero, suc, ◌≡◌, ◌≤◌, ◌<◌, ◌-◌, ◌^◌, get_or, length, List, [], ◌∷◌, arith, refl, ap, sym, inl, inr, subst, lit<}
use Rattle.std.proofs.lemmas.Bool.{lt-ltb, le-ltb, cases_lt}
use Rattle.std.specs.List.{remove}
use Rattle.std.specs.List.Sorted.{IsNonDecreasingBy}
use Rattle.gc_free.specs.declared.run.Run.{Run}
use Rattle.gc_free.specs.Runs.{IsSpread, end_of, insert_by, insert_run, remove_by}
use Rattle.gc_free.specs.Orders.{count_below, length_key, by_length}
use Rattle.gc_free.specs.TwoOrders.{AreTwoOrders}
use Rattle.gc_free.proofs.InsertBy.{Rises, Rises-sorted, Has}
use Rattle.gc_free.proofs.ByLength.{place_of, In, In-place, In-by_length, Has-In, IsSpread-rises, by_length-rises, by_length-insert_run, by_length-remove, length-by_length}
use Rattle.gc_free.proofs.Shortest.{In-get_or, In-unordered}

pub sorted_by_place : (runs ordered : List Run) → AreTwoOrders runs ordered → IsNonDecreasingBy place_of runs
sorted_by_place runs ordered two = Rises-sorted place_of 0 runs (IsSpread-rises 0 (2 ^ 32 - 1) runs two.spread)

pub sorted_by_length : (runs ordered : List Run) → AreTwoOrders runs ordered → IsNonDecreasingBy length_key ordered
sorted_by_length runs ordered two = rw two.same (Rises-sorted length_key 0 (by_length runs) (by_length-rises runs))

pub same_length : (runs ordered : List Run) → AreTwoOrders runs ordered → length ordered ≡ length runs
same_length runs ordered two = rw two.same (length-by_length runs)

-- a key among the runs is found by a search
Has-found : (key : Run → ℕ) (k j : ℕ) (xs : List Run) → Rises key j xs → Has key k xs → count_below key k xs < length xs
Has-found key k j [] up has = absurd has
Has-found key k j (x ∷ xs) up has =
    elim (cases_lt (key x) k) [
      | inl l ↦
          let later : Has key k xs = elim has [ inl e ↦ absurd (omega arith) | inr h ↦ h ] in
          rw (lt-ltb (key x) k l) (let le = Has-found key k (key x) xs up.1 later in omega arith)
      | inr l ↦ rw (le-ltb (key x) k l) (omega arith)
    ]

-- the run at an index stands in the other order too
pub stands_by_length : (runs ordered : List Run) (at : ℕ) (r : Run) → AreTwoOrders runs ordered → at < length runs → r ≡ get_or runs at r
    → count_below length_key (length_key r) ordered < length ordered
stands_by_length runs ordered at r two l is =
    let in' : In r runs = subst (λ z. In z runs) (sym is) (In-get_or runs at r l) in
    rw two.same (Has-found length_key (length_key r) 0 (by_length runs) (by_length-rises runs) (Has-In length_key r (by_length runs) (In-by_length r runs in')))

pub stands_by_place : (runs ordered : List Run) (at : ℕ) (r : Run) → AreTwoOrders runs ordered → at < length ordered → r ≡ get_or ordered at r
    → count_below place_of r.place runs < length runs
stands_by_place runs ordered at r two l is =
    let in' : In r ordered = subst (λ z. In z ordered) (sym is) (In-get_or ordered at r l) in
    let among : In r runs = In-unordered r runs (rw two.same at in') in
    Has-found place_of r.place 0 runs (IsSpread-rises 0 (2 ^ 32 - 1) runs two.spread) (Has-In place_of r runs among)

IsSpread-lower : (low low' high : ℕ) (xs : List Run) → low' ≤ low → IsSpread low high xs → IsSpread low' high xs
IsSpread-lower low low' high [] l up = tt
IsSpread-lower low low' high (x ∷ xs) l up = (let a : low ≤ x.place = up.0 in omega arith, up.1, up.2, up.3)

pub IsSpread-remove_by : (k low high : ℕ) (xs : List Run) → IsSpread low high xs → IsSpread low high (remove_by place_of k xs)
IsSpread-remove_by k low high [] up = tt
IsSpread-remove_by k low high (x ∷ xs) up =
    let a : low ≤ x.place = up.0 in
    elim (cases_lt x.place k) [
      | inl l ↦ rw (lt-ltb x.place k l) (up.0, up.1, up.2, IsSpread-remove_by k (end_of x) high xs up.3)
      | inr l ↦ rw (le-ltb x.place k l) (IsSpread-lower (end_of x) low high xs (omega arith) up.3)
    ]

pub two_orders-insert : (runs ordered : List Run) (r : Run) → AreTwoOrders runs ordered → IsSpread 0 (2 ^ 32 - 1) (insert_run r runs)
    → r.place < 2 ^ 32 → AreTwoOrders (insert_run r runs) (insert_by length_key r ordered)
two_orders-insert runs ordered r two spread small =
    record { spread = spread; same = rw two.same (sym (by_length-insert_run r 0 (2 ^ 32 - 1) runs (lit< tt) small two.spread)) }

pub two_orders-remove : (runs ordered : List Run) (r : Run) → AreTwoOrders runs ordered → In r runs
    → AreTwoOrders (remove_by place_of r.place runs) (remove_by length_key (length_key r) ordered)
two_orders-remove runs ordered r two in' =
    record {
      spread = IsSpread-remove_by r.place 0 (2 ^ 32 - 1) runs two.spread;
      same = rw two.same (sym (by_length-remove r 0 (2 ^ 32 - 1) runs (lit< tt) two.spread in'));
    }

-- `remove` at an index takes out what its place takes out
pub remove_is_by_place : (low high at : ℕ) (runs : List Run) (r : Run) → IsSpread low high runs → at < length runs → r ≡ get_or runs at r
    → remove runs at ≡ remove_by place_of r.place runs
remove_is_by_place low high at [] r up l is = absurd (omega arith)
remove_is_by_place low high zero (x ∷ xs) r up l is = rw is (rw (le-ltb x.place x.place (omega arith)))
remove_is_by_place low high (suc at) (x ∷ xs) r up l is =
    let in' : In r xs = subst (λ z. In z xs) (sym is) (In-get_or xs at r (omega arith)) in
    let p = In-place (end_of x) high r xs up.3 in' in
    let past : end_of x ≤ r.place = p.0 in let some : 0 < x.length = up.1 in
    rw (lt-ltb x.place r.place (omega arith)) (ap (λ l. x ∷ l) (remove_is_by_place (end_of x) high at xs r up.3 (omega arith) is))

pub In-insert_run : (r : Run) (xs : List Run) → In r (insert_run r xs)
In-insert_run r [] = inl refl
In-insert_run r (x ∷ xs) =
    elim (cases_lt x.place r.place) [
      | inl l ↦ rw (lt-ltb x.place r.place l) (inr (In-insert_run r xs))
      | inr l ↦ rw (le-ltb x.place r.place l) (inl refl)
    ]

-- what goes in has a place of 32 bits
pub place_fits : (r : Run) (xs : List Run) → IsSpread 0 (2 ^ 32 - 1) (insert_run r xs) → r.place < 2 ^ 32
place_fits r xs up =
    let p = In-place 0 (2 ^ 32 - 1) r (insert_run r xs) up (In-insert_run r xs) in
    let last : end_of r ≤ 2 ^ 32 - 1 = p.1 in
    omega arith

pub places_by_length : (runs ordered : List Run) → AreTwoOrders runs ordered → (z : Run) → In z ordered → z.place < 2 ^ 32
places_by_length runs ordered two z in' =
    let p = In-place 0 (2 ^ 32 - 1) z runs two.spread (In-unordered z runs (rw two.same at in')) in
    let last : end_of z ≤ 2 ^ 32 - 1 = p.1 in
    omega arith
