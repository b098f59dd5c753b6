-- Which words are a form's name, and what a line whose front has no such name begins with.
use Rattle.std.proofs.Common.{◌≡◌, ◌==◌, ℕ, ◌+◌, ◌<◌, List, [], ◌∷◌, length, min, codes, get_or, take, drop, sym, ap, ◌∙◌, arith, ◌≤◌, ◌⊎◌, inl, inr, None, Some, length-take, position}
use Rattle.std.specs.List.{slice_split}
use Rattle.std.proofs.lemmas.Bool.{cases_lt}
use Rattle.std.proofs.lemmas.List.{take_all}
use Rattle.gc_commands.proofs.WordLemmas.{first_word, no_space_found, no_space_in_front, space_in_front}
use Rattle.gc_commands.specs.declared.form.Form.{Form}
use Rattle.gc_commands.specs.declared.form.Form.TheVariants as form
use Rattle.gc_commands.specs.Forms.{name_of}

-- a word of two letters that is none of these
pub none_of_two : (word : List ℕ) → length word ≡ 2 → (word ≡ codes "eq" → ⊥) → (word ≡ codes "gc" → ⊥) → (f : Form) → Unit {0} → word ≡ name_of f → ⊥
none_of_two word long n0 n1 form.Eq u e = n0 e
none_of_two word long n0 n1 form.Gc u e = n1 e
none_of_two word long n0 n1 f u e = let same = ap length e in omega arith

-- a word of three letters that is none of these
pub none_of_three : (word : List ℕ) → length word ≡ 3 → (word ≡ codes "exn" → ⊥) → (word ≡ codes "new" → ⊥) → (word ≡ codes "i31" → ⊥) → (word ≡ codes "len" → ⊥) → (word ≡ codes "pop" → ⊥) → (word ≡ codes "own" → ⊥) → (word ≡ codes "cap" → ⊥) → (f : Form) → Unit {0} → word ≡ name_of f → ⊥
none_of_three word long n0 n1 n2 n3 n4 n5 n6 form.Exn u e = n0 e
none_of_three word long n0 n1 n2 n3 n4 n5 n6 form.New u e = n1 e
none_of_three word long n0 n1 n2 n3 n4 n5 n6 form.I31 u e = n2 e
none_of_three word long n0 n1 n2 n3 n4 n5 n6 form.Len u e = n3 e
none_of_three word long n0 n1 n2 n3 n4 n5 n6 form.Pop u e = n4 e
none_of_three word long n0 n1 n2 n3 n4 n5 n6 form.Own u e = n5 e
none_of_three word long n0 n1 n2 n3 n4 n5 n6 form.Cap u e = n6 e
none_of_three word long n0 n1 n2 n3 n4 n5 n6 f u e = let same = ap length e in omega arith

-- a word of four letters that is none of these
pub none_of_four : (word : List ℕ) → length word ≡ 4 → (word ≡ codes "host" → ⊥) → (word ≡ codes "elem" → ⊥) → (word ≡ codes "data" → ⊥) → (word ≡ codes "setf" → ⊥) → (word ≡ codes "sete" → ⊥) → (word ≡ codes "push" → ⊥) → (word ≡ codes "load" → ⊥) → (word ≡ codes "gset" → ⊥) → (word ≡ codes "gget" → ⊥) → (word ≡ codes "root" → ⊥) → (word ≡ codes "take" → ⊥) → (word ≡ codes "grow" → ⊥) → (f : Form) → Unit {0} → word ≡ name_of f → ⊥
none_of_four word long n0 n1 n2 n3 n4 n5 n6 n7 n8 n9 n10 n11 form.Host u e = n0 e
none_of_four word long n0 n1 n2 n3 n4 n5 n6 n7 n8 n9 n10 n11 form.Elem u e = n1 e
none_of_four word long n0 n1 n2 n3 n4 n5 n6 n7 n8 n9 n10 n11 form.HostNumber u e = n2 e
none_of_four word long n0 n1 n2 n3 n4 n5 n6 n7 n8 n9 n10 n11 form.SetField u e = n3 e
none_of_four word long n0 n1 n2 n3 n4 n5 n6 n7 n8 n9 n10 n11 form.SetElem u e = n4 e
none_of_four word long n0 n1 n2 n3 n4 n5 n6 n7 n8 n9 n10 n11 form.Push u e = n5 e
none_of_four word long n0 n1 n2 n3 n4 n5 n6 n7 n8 n9 n10 n11 form.Load u e = n6 e
none_of_four word long n0 n1 n2 n3 n4 n5 n6 n7 n8 n9 n10 n11 form.SetGlobal u e = n7 e
none_of_four word long n0 n1 n2 n3 n4 n5 n6 n7 n8 n9 n10 n11 form.GetGlobal u e = n8 e
none_of_four word long n0 n1 n2 n3 n4 n5 n6 n7 n8 n9 n10 n11 form.Root u e = n9 e
none_of_four word long n0 n1 n2 n3 n4 n5 n6 n7 n8 n9 n10 n11 form.Take u e = n10 e
none_of_four word long n0 n1 n2 n3 n4 n5 n6 n7 n8 n9 n10 n11 form.Grow u e = n11 e
none_of_four word long n0 n1 n2 n3 n4 n5 n6 n7 n8 n9 n10 n11 f u e = let same = ap length e in omega arith

-- a word of five letters that is none of these
pub none_of_five : (word : List ℕ) → length word ≡ 5 → (word ≡ codes "array" → ⊥) → (word ≡ codes "fixed" → ⊥) → (word ≡ codes "bytes" → ⊥) → (word ≡ codes "field" → ⊥) → (word ≡ codes "enter" → ⊥) → (word ≡ codes "leave" → ⊥) → (word ≡ codes "store" → ⊥) → (word ≡ codes "throw" → ⊥) → (word ≡ codes "gcinc" → ⊥) → (f : Form) → Unit {0} → word ≡ name_of f → ⊥
none_of_five word long n0 n1 n2 n3 n4 n5 n6 n7 n8 form.Array u e = n0 e
none_of_five word long n0 n1 n2 n3 n4 n5 n6 n7 n8 form.Fixed u e = n1 e
none_of_five word long n0 n1 n2 n3 n4 n5 n6 n7 n8 form.Bytes u e = n2 e
none_of_five word long n0 n1 n2 n3 n4 n5 n6 n7 n8 form.Field u e = n3 e
none_of_five word long n0 n1 n2 n3 n4 n5 n6 n7 n8 form.Enter u e = n4 e
none_of_five word long n0 n1 n2 n3 n4 n5 n6 n7 n8 form.Leave u e = n5 e
none_of_five word long n0 n1 n2 n3 n4 n5 n6 n7 n8 form.Store u e = n6 e
none_of_five word long n0 n1 n2 n3 n4 n5 n6 n7 n8 form.Throw u e = n7 e
none_of_five word long n0 n1 n2 n3 n4 n5 n6 n7 n8 form.GcInc u e = n8 e
none_of_five word long n0 n1 n2 n3 n4 n5 n6 n7 n8 f u e = let same = ap length e in omega arith

-- a word of six letters that is none of these
pub none_of_six : (word : List ℕ) → length word ≡ 6 → (word ≡ codes "struct" → ⊥) → (word ≡ codes "newexn" → ⊥) → (word ≡ codes "newarr" → ⊥) → (word ≡ codes "unroot" → ⊥) → (word ≡ codes "gcdrop" → ⊥) → (f : Form) → Unit {0} → word ≡ name_of f → ⊥
none_of_six word long n0 n1 n2 n3 n4 form.Struct u e = n0 e
none_of_six word long n0 n1 n2 n3 n4 form.NewExn u e = n1 e
none_of_six word long n0 n1 n2 n3 n4 form.NewArr u e = n2 e
none_of_six word long n0 n1 n2 n3 n4 form.Unroot u e = n3 e
none_of_six word long n0 n1 n2 n3 n4 form.GcDrop u e = n4 e
none_of_six word long n0 n1 n2 n3 n4 f u e = let same = ap length e in omega arith

-- a word of another length
pub none_of_others : (word : List ℕ) → (length word ≡ 2 → ⊥) → (length word ≡ 3 → ⊥) → (length word ≡ 4 → ⊥) → (length word ≡ 5 → ⊥) → (length word ≡ 6 → ⊥) → (f : Form) → Unit {0} → word ≡ name_of f → ⊥
none_of_others word a b c d f form.Struct u e = f (ap length e)
none_of_others word a b c d f form.Array u e = d (ap length e)
none_of_others word a b c d f form.Exn u e = b (ap length e)
none_of_others word a b c d f form.New u e = b (ap length e)
none_of_others word a b c d f form.NewExn u e = f (ap length e)
none_of_others word a b c d f form.NewArr u e = f (ap length e)
none_of_others word a b c d f form.Fixed u e = d (ap length e)
none_of_others word a b c d f form.Bytes u e = d (ap length e)
none_of_others word a b c d f form.Host u e = c (ap length e)
none_of_others word a b c d f form.I31 u e = b (ap length e)
none_of_others word a b c d f form.Field u e = d (ap length e)
none_of_others word a b c d f form.Elem u e = c (ap length e)
none_of_others word a b c d f form.Len u e = b (ap length e)
none_of_others word a b c d f form.HostNumber u e = c (ap length e)
none_of_others word a b c d f form.SetField u e = c (ap length e)
none_of_others word a b c d f form.SetElem u e = c (ap length e)
none_of_others word a b c d f form.Eq u e = a (ap length e)
none_of_others word a b c d f form.Enter u e = d (ap length e)
none_of_others word a b c d f form.Leave u e = d (ap length e)
none_of_others word a b c d f form.Push u e = c (ap length e)
none_of_others word a b c d f form.Pop u e = b (ap length e)
none_of_others word a b c d f form.Store u e = d (ap length e)
none_of_others word a b c d f form.Load u e = c (ap length e)
none_of_others word a b c d f form.SetGlobal u e = c (ap length e)
none_of_others word a b c d f form.GetGlobal u e = c (ap length e)
none_of_others word a b c d f form.Own u e = b (ap length e)
none_of_others word a b c d f form.Root u e = c (ap length e)
none_of_others word a b c d f form.Unroot u e = f (ap length e)
none_of_others word a b c d f form.Throw u e = d (ap length e)
none_of_others word a b c d f form.Take u e = c (ap length e)
none_of_others word a b c d f form.Gc u e = a (ap length e)
none_of_others word a b c d f form.GcDrop u e = f (ap length e)
none_of_others word a b c d f form.GcInc u e = d (ap length e)
none_of_others word a b c d f form.Grow u e = c (ap length e)
none_of_others word a b c d f form.Cap u e = b (ap length e)

-- a name has at most six letters
name_is_short : (f : Form) → length (name_of f) < 7
name_is_short form.Struct = omega arith
name_is_short f = omega arith

-- as many bytes as a name and a space may have
front_of_seven : (line : List ℕ) (n : ℕ) → n ≡ min (length line) 7 → take 7 line ≡ take n line
front_of_seven line n cut = go (cases_lt 7 (length line))
  where
    go : (7 < length line) ⊎ (length line ≤ 7) → take 7 line ≡ take n line
    go (inl long) = let same : 7 ≡ n = omega (arith, cut, long) in ap (λ m. take m line) same
    go (inr short) = take_all 7 line short ∙ sym (take_all n line (omega (arith, cut, short)))

module _ (line name : List ℕ) (n : ℕ) (cut : n ≡ min (length line) 7) where
  -- a name that a space ends
  pub named_by_space : (k : ℕ) (words : List (List ℕ)) (f : Form) → position (λ b. b == 32) (take n line) ≡ Some k → name ≡ take k line → words ≡ slice_split (λ b. b == 32) (drop (k + 1) line) → name ≡ name_of f
      → slice_split (λ b. b == 32) line ≡ name_of f ∷ words
  named_by_space k words f found front rest same =
      first_word line k (space_in_front n line k found) ∙ ap (λ w. w ∷ slice_split (λ b. b == 32) (drop (k + 1) line)) (sym front ∙ same) ∙ ap (λ ws. name_of f ∷ ws) (sym rest)

  -- a name that is the whole line
  pub named_whole : (f : Form) → position (λ b. b == 32) (take n line) ≡ None → name ≡ take n line → name ≡ name_of f → slice_split (λ b. b == 32) line ≡ name_of f ∷ []
  named_whole f none front same =
      let whole : take n line ≡ line = take_all n line (omega (arith, cut, length-take n line, ap length front, ap length same, name_is_short f)) in
      no_space_found line (ap (position (λ b. b == 32)) (sym whole) ∙ none) ∙ ap (λ w. w ∷ []) (sym whole ∙ sym front ∙ same)

  -- where what a space ends is no name, the line has none
  pub unnamed_by_space : (k : ℕ) → position (λ b. b == 32) (take n line) ≡ Some k → name ≡ take k line → ((f : Form) → Unit {0} → name ≡ name_of f → ⊥) → (f : Form) (rest : List (List ℕ)) → slice_split (λ b. b == 32) line ≡ name_of f ∷ rest → ⊥
  unnamed_by_space k found front none f rest words = none f tt (front ∙ ap (λ (ws : List (List ℕ)). get_or ws 0 []) (sym (first_word line k (space_in_front n line k found)) ∙ words))

  -- where a front without a space is no name, the line has none
  pub unnamed_whole : position (λ b. b == 32) (take n line) ≡ None → name ≡ take n line → ((f : Form) → Unit {0} → name ≡ name_of f → ⊥) → (f : Form) (rest : List (List ℕ)) → slice_split (λ b. b == 32) line ≡ name_of f ∷ rest → ⊥
  unnamed_whole unfound front none f rest words = none f tt (front ∙ sym (no_space_in_front 7 line (name_of f) rest (ap (λ (bytes : List ℕ). position (λ b. b == 32) bytes) (front_of_seven line n cut) ∙ unfound) words (name_is_short f) ∙ front_of_seven line n cut))
