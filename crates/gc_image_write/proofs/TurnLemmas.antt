-- Types and the commands that declare them, as far as a loop has come.
use Rattle.std.proofs.Common.{◌≡◌, ℕ, ◌+◌, ◌≤◌, inl, inr, suc, zero, List, [], ◌∷◌, ◌++◌, length, get_or, take, Option, None, Some, Result, Ok, Err, IfOk, false, refl, sym, ap, subst, ◌∙◌, arith}
use Rattle.std.specs.List.{AllByRecursion, slice_get}
use Rattle.std.specs.Option.{is_none, option_map}
use Rattle.std.proofs.lemmas.List.{length-take, take_all, take_more}
use Rattle.std.proofs.lemmas.Option.{none-some, slice_get-get_or, slice_get_within}
use Rattle.gc_types.specs.declared.kind.TypeKind.{TypeKind}
use Rattle.gc_types.specs.declared.kind.TypeKind.TheVariants as kinds
use Rattle.gc_types.specs.declared.value.FieldType.{FieldType}
use Rattle.gc_types.specs.declared.value.ValType.{ValType}
use Rattle.gc_types.specs.Declarable.{AreDeclared}
use Rattle.gc_types.specs.Declarations.{Declaration, Shape, array_of, exn_of, func_of, kind_at, max_types, shape_kind, struct_of}
use Rattle.gc_commands.specs.declared.command.Command.{Command}
use Rattle.gc_image.specs.Declaring.{DeclareInTurn, CommandDeclares}
use Rattle.gc_image.specs.Text.{FitsImageType}
use Rattle.gc_model.proofs.Lists.{slice_get-push_cases}
use Rattle.gc_image_write.specs.Plain.{ArePlain, IsPlainType, IsPlainShape}
use Rattle.gc_image_write.specs.TypeWords.{AreTypeCommands, Commanded}

-- one more command in turn
turn_push : (types : List Declaration) (commands : List Command) (all : List Declaration) (command : Command) (d : Declaration) → DeclareInTurn types commands all → CommandDeclares all command d
    → DeclareInTurn types (commands ++ command ∷ []) (all ++ d ∷ [])
turn_push types [] all command d turn declares = (d, (subst (λ ts. CommandDeclares ts command d) (sym turn) declares, ap (λ ts. ts ++ d ∷ []) turn))
turn_push types (first ∷ commands) all command d turn declares = (turn.0, (turn.1.0, turn_push (types ++ turn.0 ∷ []) commands all command d turn.1.1 declares))

fit_push : {A : Type 0} (P : A → Type 0) (xs : List A) (x : A) → AllByRecursion P xs → P x → AllByRecursion P (xs ++ x ∷ [])
fit_push P [] x all here = (here, tt)
fit_push P (y ∷ xs) x all here = (all.0, fit_push P xs x all.1 here)

-- the commands of the types before the n-th, which are plain
pub record CommandsSoFar (types : List Declaration) (n : ℕ) (commands : List Command) : Type 0 where
  pub made : AreTypeCommands (take n types) commands
  pub plain : ArePlain (take n types)

pub none_yet : (types : List Declaration) → CommandsSoFar types 0 []
none_yet types = record { made = record { declare = refl; fit = tt }; plain = λ k d at. absurd (none-some d at) }

pub one_more : (types : List Declaration) (n : ℕ) (commands : List Command) (command : Command) (d : Declaration) → slice_get types n ≡ Some d → CommandsSoFar types n commands
    → Commanded (take n types) d (Some command) → CommandsSoFar types (n + 1) (commands ++ command ∷ [])
one_more types n commands command d at so_far commanded =
    let below = slice_get_within types n d at in
    let same : get_or types n d ≡ d = let both : Some (get_or types n d) ≡ Some d = sym (slice_get-get_or types n d below) ∙ at in cc in
    let next : take (n + 1) types ≡ take n types ++ d ∷ [] = take_more types n d below ∙ ap (λ e. take n types ++ e ∷ []) same in
    subst (λ ts. (AreTypeCommands ts (commands ++ command ∷ [])) × ArePlain ts → CommandsSoFar types (n + 1) (commands ++ command ∷ [])) next (λ both. record { made = both.0; plain = both.1 }) (
      record {
        declare = turn_push [] commands (take n types) command d so_far.made.declare commanded.1.declares;
        fit = fit_push FitsImageType commands command so_far.made.fit commanded.1.fits;
      },
      λ k e found. elim (slice_get-push_cases (take n types) d k e found) [ inl old ↦ so_far.plain k e old | inr new ↦ subst IsPlainType new.1 commanded.0 ],
    )

-- all types were gone through
pub all_told : (types : List Declaration) (n : ℕ) (commands : List Command) → length types ≤ n → CommandsSoFar types n commands → AreTypeCommands types commands × ArePlain types
all_told types n commands over so_far =
    let all = take_all n types over in
    (subst (λ ts. AreTypeCommands ts commands) all so_far.made, subst ArePlain all so_far.plain)

pub few_declared : (types : List Declaration) → AreDeclared types → length types ≤ max_types
few_declared [] declared = omega arith
few_declared (t ∷ types) declared =
    let last = declared.each (length types) (get_or (t ∷ types) (length types) t) (slice_get-get_or (t ∷ types) (length types) t (omega arith)) in
    omega (arith, last.few_types, length-take (length types) (t ∷ types))

-- behind the last type none has a kind
pub no_kind : (types : List Declaration) (n : ℕ) → kind_at types n ≡ None → length types ≤ n
no_kind [] n none = omega arith
no_kind (t ∷ types) zero none = cc
no_kind (t ∷ types) (suc n) none = let rest = no_kind types n none in omega arith

an_entry : (o : Option Declaration) → is_none (option_map (λ (e : Declaration). shape_kind e.shape) o) ≡ false → (d : Declaration) × (o ≡ Some d)
an_entry None some = cc
an_entry (Some d) some = (d, refl)

-- what has a kind is a type
pub has_type : (types : List Declaration) (n : ℕ) (kind : Option TypeKind) → kind ≡ kind_at types n → is_none kind ≡ false → (d : Declaration) × (slice_get types n ≡ Some d)
has_type types n kind e some = an_entry (slice_get types n) (subst (λ k. is_none k ≡ false) e some)

-- a type by its kind
pub kind_told : (types : List Declaration) (n : ℕ) (d : Declaration) (k : TypeKind) → slice_get types n ≡ Some d → kind_at types n ≡ Some k → shape_kind d.shape ≡ k
kind_told types n d k at kind =
    let both : Some (shape_kind d.shape) ≡ Some k = sym (ap (option_map (λ (e : Declaration). shape_kind e.shape)) at) ∙ kind in cc

pub a_struct : (shape : Shape) → shape_kind shape ≡ kinds.Struct → (fields : List FieldType) × (shape ≡ struct_of fields)
a_struct (struct_of fields) kind = (fields, refl)
a_struct (array_of elem) kind = cc
a_struct (exn_of params) kind = cc
a_struct (func_of params results) kind = cc

pub an_array : (shape : Shape) → shape_kind shape ≡ kinds.Array → (elem : FieldType) × (shape ≡ array_of elem)
an_array (struct_of fields) kind = cc
an_array (array_of elem) kind = (elem, refl)
an_array (exn_of params) kind = cc
an_array (func_of params results) kind = cc

pub an_exn : (shape : Shape) → shape_kind shape ≡ kinds.Exn → (params : List ValType) × (shape ≡ exn_of params)
an_exn (struct_of fields) kind = cc
an_exn (array_of elem) kind = cc
an_exn (exn_of params) kind = (params, refl)
an_exn (func_of params results) kind = cc

pub a_function : (d : Declaration) → shape_kind d.shape ≡ kinds.Func → ¬ IsPlainType d
a_function d kind = by_shape d.shape kind
  where
    by_shape : (shape : Shape) → shape_kind shape ≡ kinds.Func → ¬ IsPlainShape shape
    by_shape (struct_of fields) e = cc
    by_shape (array_of elem) e = cc
    by_shape (exn_of params) e = cc
    by_shape (func_of params results) e = λ plain. plain

pub ok_told : {T E : Type 0} {P Q : T → Type 0} (r : Result T E) → ((x : T) → P x → Q x) → IfOk r P → IfOk r Q
ok_told (Ok x) on fact = on x fact
ok_told (Err e) on fact = tt
