-- The command that declares a type is determined by it.
use Rattle.std.proofs.Common.{◌≡◌, ℕ, ◌+◌, Bool, true, false, List, [], ◌∷◌, ◌++◌, length, length-append, map, Option, None, Some, refl, sym, ap, ap₂, subst, ◌∙◌, arith}
use Rattle.std.specs.List.{AllByRecursion, slice_get}
use Rattle.std.specs.Option.{option_map}
use Rattle.std.proofs.lemmas.Option.{none-some, same_Some}
use Rattle.gc_types.specs.declared.kind.TypeKind.{TypeKind}
use Rattle.gc_types.specs.declared.kind.TypeKind.TheVariants as kinds
use Rattle.gc_types.specs.declared.value.FieldType.{FieldType}
use Rattle.gc_types.specs.declared.value.HeapType.{HeapType}
use Rattle.gc_types.specs.declared.value.HeapType.TheVariants as heap_type
use Rattle.gc_types.specs.declared.value.Mutability.{Mutability}
use Rattle.gc_types.specs.declared.value.Mutability.TheVariants.{Const, Var}
use Rattle.gc_types.specs.declared.value.StorageType.{StorageType}
use Rattle.gc_types.specs.declared.value.StorageType.TheVariants as storage_type
use Rattle.gc_types.specs.declared.value.ValType.{ValType}
use Rattle.gc_types.specs.declared.value.ValType.TheVariants as val_type
use Rattle.gc_types.specs.Declarations.{Declaration, Shape, array_of, array_type, exn_of, exn_type, func_of, struct_of, struct_type}
use Rattle.gc_commands.specs.declared.command.Command.{Command}
use Rattle.gc_commands.specs.declared.command.Command.TheVariants as command
use Rattle.gc_commands.specs.declared.command.FieldWord.{FieldWord}
use Rattle.gc_commands.specs.declared.command.HeapWord.{HeapWord}
use Rattle.gc_commands.specs.declared.command.HeapWord.TheVariants as heap
use Rattle.gc_commands.specs.declared.command.StorageWord.{StorageWord}
use Rattle.gc_commands.specs.declared.command.StorageWord.TheVariants as storage
use Rattle.gc_commands.specs.declared.command.ValueWord.{ValueWord}
use Rattle.gc_commands.specs.declared.command.ValueWord.TheVariants as value
use Rattle.gc_commands.specs.Spelling.{IsDeclaring}
use Rattle.gc_commands.specs.TypeWords.{each_of, field_of, heap_of, kinds_with, mutability_of, named_type, with_first, storage_of, value_type_of}
use Rattle.gc_image.specs.Declaring.{DeclareInTurn, declared_by}
use Rattle.gc_image.specs.Text.{FitsImageType}
use Rattle.gc_model.proofs.Lists.{slice_get-push_new, slice_get-push_old}

-- the word of a type; of one that no word spells some word
abbrev heap_back : HeapType → HeapWord
heap_back heap_type.Any = heap.Any
heap_back heap_type.Eq = heap.Eq
heap_back heap_type.I31 = heap.I31
heap_back heap_type.Struct = heap.Struct
heap_back heap_type.Array = heap.Array
heap_back heap_type.None = heap.None
heap_back heap_type.Extern = heap.Extern
heap_back heap_type.NoExtern = heap.NoExtern
heap_back heap_type.Exn = heap.Exn
heap_back heap_type.NoExn = heap.NoExn
heap_back (heap_type.ConcreteStruct n) = heap.Named n
heap_back (heap_type.ConcreteArray n) = heap.Named n
heap_back (heap_type.ConcreteExn n) = heap.Named n
heap_back _ = heap.Any

abbrev value_back : ValType → ValueWord
value_back val_type.I32 = value.I32
value_back val_type.I64 = value.I64
value_back val_type.F32 = value.F32
value_back val_type.F64 = value.F64
value_back val_type.V128 = value.V128
value_back (val_type.Ref ty) = value.Ref (heap_back ty.heap_type) ty.nullable

abbrev storage_back : StorageType → StorageWord
storage_back storage_type.I8 = storage.I8
storage_back storage_type.I16 = storage.I16
storage_back (storage_type.ValType ty) = storage.Value (value_back ty)

abbrev is_var : Mutability → Bool
is_var Const = false
is_var Var = true

abbrev field_back : FieldType → FieldWord
field_back field = record { mutable = is_var field.mutability; storage = storage_back field.element_type }

abbrev shape_back : Shape → Option ℕ → Bool → Command
shape_back (struct_of fields) supertype is_final = command.Struct is_final supertype (map field_back fields)
shape_back (array_of elem) supertype is_final = command.Array is_final supertype (field_back elem)
shape_back (exn_of params) supertype is_final = command.Exn (map value_back params)
shape_back (func_of params results) supertype is_final = command.Bad

abbrev command_back : Declaration → Command
command_back d = shape_back d.shape d.supertype d.is_final

named_back : (n : ℕ) (kind : Option TypeKind) (ty : HeapType) → named_type n kind ≡ Some ty → heap.Named n ≡ heap_back ty
named_back n None ty e = absurd (none-some ty e)
named_back n (Some kinds.Struct) ty e = ap heap_back (same_Some (heap_type.ConcreteStruct n) ty e)
named_back n (Some kinds.Array) ty e = ap heap_back (same_Some (heap_type.ConcreteArray n) ty e)
named_back n (Some kinds.Exn) ty e = ap heap_back (same_Some (heap_type.ConcreteExn n) ty e)
named_back n (Some kinds.Func) ty e = absurd (none-some ty e)

heap_one : (kind : ℕ → Option TypeKind) (w : HeapWord) (ty : HeapType) → heap_of kind w ≡ Some ty → w ≡ heap_back ty
heap_one kind heap.Any ty e = ap heap_back (same_Some heap_type.Any ty e)
heap_one kind heap.Eq ty e = ap heap_back (same_Some heap_type.Eq ty e)
heap_one kind heap.I31 ty e = ap heap_back (same_Some heap_type.I31 ty e)
heap_one kind heap.Struct ty e = ap heap_back (same_Some heap_type.Struct ty e)
heap_one kind heap.Array ty e = ap heap_back (same_Some heap_type.Array ty e)
heap_one kind heap.None ty e = ap heap_back (same_Some heap_type.None ty e)
heap_one kind heap.Extern ty e = ap heap_back (same_Some heap_type.Extern ty e)
heap_one kind heap.NoExtern ty e = ap heap_back (same_Some heap_type.NoExtern ty e)
heap_one kind heap.Exn ty e = ap heap_back (same_Some heap_type.Exn ty e)
heap_one kind heap.NoExn ty e = ap heap_back (same_Some heap_type.NoExn ty e)
heap_one kind (heap.Named n) ty e = named_back n (kind n) ty e

-- what a function made of something that is there
mapped : {A B : Type 0} (f : A → B) (o : Option A) (y : B) → option_map f o ≡ Some y → (x : A) × ((o ≡ Some x) × (f x ≡ y))
mapped f None y e = absurd (none-some y e)
mapped f (Some x) y e = (x, (refl, same_Some (f x) y e))

value_one : (kind : ℕ → Option TypeKind) (w : ValueWord) (ty : ValType) → value_type_of kind w ≡ Some ty → w ≡ value_back ty
value_one kind value.I32 ty e = ap value_back (same_Some val_type.I32 ty e)
value_one kind value.I64 ty e = ap value_back (same_Some val_type.I64 ty e)
value_one kind value.F32 ty e = ap value_back (same_Some val_type.F32 ty e)
value_one kind value.F64 ty e = ap value_back (same_Some val_type.F64 ty e)
value_one kind value.V128 ty e = ap value_back (same_Some val_type.V128 ty e)
value_one kind (value.Ref h nullable) ty e =
    let at = mapped (λ (t : HeapType). val_type.Ref (record { nullable = nullable; heap_type = t })) (heap_of kind h) ty e in
    ap (λ w. value.Ref w nullable) (heap_one kind h at.0 at.1.0) ∙ ap value_back at.1.1

storage_one : (kind : ℕ → Option TypeKind) (w : StorageWord) (ty : StorageType) → storage_of kind w ≡ Some ty → w ≡ storage_back ty
storage_one kind storage.I8 ty e = ap storage_back (same_Some storage_type.I8 ty e)
storage_one kind storage.I16 ty e = ap storage_back (same_Some storage_type.I16 ty e)
storage_one kind (storage.Value v) ty e =
    let at = mapped (λ (t : ValType). storage_type.ValType t) (value_type_of kind v) ty e in ap storage.Value (value_one kind v at.0 at.1.0) ∙ ap storage_back at.1.1

var_one : (b : Bool) → is_var (mutability_of b) ≡ b
var_one true = refl
var_one false = refl

field_one : (kind : ℕ → Option TypeKind) (w : FieldWord) (field : FieldType) → field_of kind w ≡ Some field → w ≡ field_back field
field_one kind w field e =
    let at = mapped (λ (t : StorageType). record { mutability = mutability_of w.mutable; element_type = t }) (storage_of kind w.storage) field e in
    ap₂ (λ m s. record { mutable = m; storage = s }) (sym (var_one w.mutable)) (storage_one kind w.storage at.0 at.1.0) ∙ ap field_back at.1.1

-- both parts of what is put together
record Both {A : Type 0} (o : Option A) (rest : Option (List A)) (all : List A) : Type 0 where
  first : A
  others : List A
  is_first : o ≡ Some first
  is_rest : rest ≡ Some others
  whole : first ∷ others ≡ all

both_there : {A : Type 0} (o : Option A) (rest : Option (List A)) (all : List A) → with_first o rest ≡ Some all → Both o rest all
both_there None rest all e = absurd (none-some all e)
both_there (Some x) None all e = absurd (none-some all e)
both_there (Some x) (Some xs) all e = record { first = x; others = xs; is_first = refl; is_rest = refl; whole = same_Some (x ∷ xs) all e }

each_one : {A B : Type 0} (read : A → Option B) (back : B → A) → ((w : A) (x : B) → read w ≡ Some x → w ≡ back x) → (ws : List A) (xs : List B) → each_of read ws ≡ Some xs → ws ≡ map back xs
each_one read back one [] xs e = ap (map back) (same_Some [] xs e)
each_one read back one (w ∷ ws) xs e =
    let both = both_there (read w) (each_of read ws) xs e in
    ap₂ (λ y ys. y ∷ ys) (one w both.first both.is_first) (each_one read back one ws both.others both.is_rest) ∙ ap (map back) both.whole

command_one : (types : List Declaration) (c : Command) (d : Declaration) → IsDeclaring c → declared_by types c ≡ Some d → c ≡ command_back d
command_one types (command.Struct is_final supertype fields) d is e =
    let kind = kinds_with types kinds.Struct in
    let at = mapped (λ (fs : List FieldType). struct_type fs supertype is_final) (each_of (field_of kind) fields) d e in
    ap (command.Struct is_final supertype) (each_one (field_of kind) field_back (field_one kind) fields at.0 at.1.0) ∙ ap command_back at.1.1
command_one types (command.Array is_final supertype elem) d is e =
    let kind = kinds_with types kinds.Array in
    let at = mapped (λ (f : FieldType). array_type f supertype is_final) (field_of kind elem) d e in
    ap (command.Array is_final supertype) (field_one kind elem at.0 at.1.0) ∙ ap command_back at.1.1
command_one types (command.Exn params) d is e =
    let kind = kinds_with types kinds.Exn in
    let at = mapped (λ (ps : List ValType). exn_type ps) (each_of (value_type_of kind) params) d e in
    ap command.Exn (each_one (value_type_of kind) value_back (value_one kind) params at.0 at.1.0) ∙ ap command_back at.1.1
command_one types _ d is e = absurd is

turn_long : (types : List Declaration) (cs : List Command) (all : List Declaration) → DeclareInTurn types cs all → length all ≡ length types + length cs
turn_long types [] all turn = ap length (sym turn) ∙ omega arith
turn_long types (c ∷ cs) all turn = let rest = turn_long (types ++ turn.0 ∷ []) cs all turn.1.1 in omega (arith, rest, length-append types (turn.0 ∷ []))

turn_keeps : (types : List Declaration) (cs : List Command) (all : List Declaration) (i : ℕ) (d : Declaration) → DeclareInTurn types cs all → slice_get types i ≡ Some d → slice_get all i ≡ Some d
turn_keeps types [] all i d turn there = ap (λ ds. slice_get ds i) (sym turn) ∙ there
turn_keeps types (c ∷ cs) all i d turn there = turn_keeps (types ++ turn.0 ∷ []) cs all i d turn.1.1 (slice_get-push_old types turn.0 i d there)

-- commands that declare the same types are the same
pub commands_one : (types : List Declaration) (cs ds : List Command) (all : List Declaration) → DeclareInTurn types cs all → DeclareInTurn types ds all → AllByRecursion FitsImageType cs → AllByRecursion FitsImageType ds
    → cs ≡ ds
commands_one types [] [] all turn other fit fits = refl
commands_one types [] (d ∷ ds) all turn other fit fits = absurd (let one = turn_long types [] all turn in let two = turn_long types (d ∷ ds) all other in omega (arith, one, two))
commands_one types (c ∷ cs) [] all turn other fit fits = absurd (let one = turn_long types (c ∷ cs) all turn in let two = turn_long types [] all other in omega (arith, one, two))
commands_one types (c ∷ cs) (d ∷ ds) all turn other fit fits =
    let mine = turn_keeps (types ++ turn.0 ∷ []) cs all (length types) turn.0 turn.1.1 (slice_get-push_new types turn.0) in
    let theirs = turn_keeps (types ++ other.0 ∷ []) ds all (length types) other.0 other.1.1 (slice_get-push_new types other.0) in
    let same : other.0 ≡ turn.0 = same_Some other.0 turn.0 (sym theirs ∙ mine) in
    ap₂ (λ x xs. x ∷ xs)
    (command_one types c turn.0 fit.0.0 turn.1.0.spelled ∙ ap command_back (sym same) ∙ sym (command_one types d other.0 fits.0.0 other.1.0.spelled))
    (commands_one (types ++ turn.0 ∷ []) cs ds all turn.1.1 (subst (λ x. DeclareInTurn (types ++ x ∷ []) ds all) same other.1.1) fit.1 fits.1)
