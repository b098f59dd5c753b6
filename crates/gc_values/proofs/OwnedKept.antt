-- Owned roots that have handles keep them through a trim and a move.
use Rattle.std.proofs.Common.{◌≡◌, ℕ, ◌<◌, inl, inr, true, false, cond, not, nat_eq, List, [], ◌∷◌, map, Some, Ok, Err, refl, sym, ap, ◌∙◌, subst, arith}
use Rattle.std.proofs.lemmas.Bool.{cases_eq, eq-eqb, ne_eqb}
use Rattle.std.proofs.lemmas.List.Kept.{AllPairs-filter}
use Rattle.gc_heap.specs.Collection.{moved}
use Rattle.gc_owner.specs.declared.entry.OwnedEntry.{OwnedEntry}
use Rattle.gc_owner.specs.RootColumns as columns
use Rattle.gc_model.proofs.Members.{pairs_map}
use Rattle.gc_values.specs.declared.root.RootFault.TheVariants as fault
use Rattle.gc_values.specs.Words.{owned_at, owned_word, AreOwnedRising}
use Rattle.gc_values.proofs.OwnedWords.{owned_word-ok}

-- Owned roots stand by rising number where they did, and a number that has a word has one.
pub record KeepsOwned (entries entries' : List OwnedEntry) : Type 0 where
  pub rising : AreOwnedRising entries → AreOwnedRising entries'
  pub words : (number word : ℕ) → owned_word (owned_at number entries) ≡ Ok word → (word' : ℕ) × (owned_word (owned_at number entries') ≡ Ok word')

pub owned-same : {entries entries' : List OwnedEntry} → entries' ≡ entries → KeepsOwned entries entries'
owned-same same = record {
  rising = subst AreOwnedRising (sym same);
  words = λ number word is. (word, ap (λ es. owned_word (owned_at number es)) same ∙ is);
}

pub owned-then : {a b c : List OwnedEntry} → KeepsOwned a b → KeepsOwned b c → KeepsOwned a c
owned-then first then = record {
  rising = λ rising. then.rising (first.rising rising);
  words = λ number word is. let mid = first.words number word is in then.words number mid.0 mid.1;
}

-- A trim

trimmed_word : (entries : List OwnedEntry) (number word : ℕ) → owned_word (owned_at number entries) ≡ Ok word → owned_word (owned_at number (columns.with_handles entries)) ≡ Ok word
trimmed_word [] number word is = is
trimmed_word (x ∷ xs) number word is = elim (cases_eq x.number number) [
  | inl same ↦
      let here : owned_at number (x ∷ xs) ≡ Some x = ap (λ b. cond b (Some x) (owned_at number xs)) (eq-eqb x.number number same) in
      let held = owned_word-ok (Some x) word (ap owned_word (sym here) ∙ is) in
      let one : Some x ≡ Some held.0 = held.1.0 in
      let some : 0 < x.handles = subst (λ (e : OwnedEntry). 0 < e.handles) (sym (same_entry x held.0 one)) held.1.1.0 in
      let passes : not (nat_eq x.handles 0) ≡ true = ap not (ne_eqb x.handles 0 (λ none. absurd (omega (arith, none, some)))) in
      ap (λ b. owned_word (owned_at number (cond b (x ∷ columns.with_handles xs) (columns.with_handles xs)))) passes
      ∙ ap (λ b. owned_word (cond b (Some x) (owned_at number (columns.with_handles xs)))) (eq-eqb x.number number same)
      ∙ ap owned_word (sym here)
      ∙ is
  | inr differ ↦
      let behind : owned_word (owned_at number xs) ≡ Ok word = sym (ap (λ b. owned_word (cond b (Some x) (owned_at number xs))) (ne_eqb x.number number differ)) ∙ is in
      let rest = trimmed_word xs number word behind in
      elim (not (nat_eq x.handles 0)) as (λ b. owned_word (owned_at number (cond b (x ∷ columns.with_handles xs) (columns.with_handles xs))) ≡ Ok word) [
        | true ↦ ap (λ b. owned_word (cond b (Some x) (owned_at number (columns.with_handles xs)))) (ne_eqb x.number number differ) ∙ rest
        | false ↦ rest
      ]
]
  where
    same_entry : (a b : OwnedEntry) → Some a ≡ Some b → a ≡ b
    same_entry a b e = grind (arith, e)

pub owned-trimmed : (entries : List OwnedEntry) → KeepsOwned entries (columns.with_handles entries)
owned-trimmed entries = record {
  rising = AllPairs-filter (λ (a b : OwnedEntry). a.number < b.number) (λ (e : OwnedEntry). not (nat_eq e.handles 0)) entries;
  words = λ number word is. (word, trimmed_word entries number word is);
}

-- A move

moved_word : (to : ℕ → ℕ) (entries : List OwnedEntry) (number word : ℕ) → owned_word (owned_at number entries) ≡ Ok word
    → (word' : ℕ) × (owned_word (owned_at number (map (λ (e : OwnedEntry). record e { word = moved to e.word }) entries)) ≡ Ok word')
moved_word to [] number word is = absurd (cc)
moved_word to (x ∷ xs) number word is =
    elim (nat_eq x.number number) as (λ b. owned_word (cond b (Some x) (owned_at number xs)) ≡ Ok word
    → (word' : ℕ) × (owned_word (cond b (Some (record x { word = moved to x.word })) (owned_at number (map (λ (e : OwnedEntry). record e { word = moved to e.word }) xs))) ≡ Ok word')) [
      | true ↦ λ e. elim (nat_eq x.handles 0) as (λ b. cond b (Err fault.Unrooted) (Ok x.word) ≡ Ok word → (word' : ℕ) × (cond b (Err fault.Unrooted) (Ok (moved to x.word)) ≡ Ok word')) [
        | true ↦ λ h. absurd (cc)
        | false ↦ λ h. (moved to x.word, refl)
      ] e
      | false ↦ λ e. moved_word to xs number word e
    ] is

pub owned-moved : (to : ℕ → ℕ) (entries : List OwnedEntry) → KeepsOwned entries (map (λ (e : OwnedEntry). record e { word = moved to e.word }) entries)
owned-moved to entries = record {
  rising = pairs_map (λ (a b : OwnedEntry). a.number < b.number) (λ (e : OwnedEntry). record e { word = moved to e.word }) entries;
  words = moved_word to entries;
}
