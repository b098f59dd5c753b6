-- Types that are declared in turn.
use Rattle.std.proofs.Common.{◌≡◌, ℕ, suc, ◌+◌, ◌<◌, ◌≤◌, List, [], ◌∷◌, ◌++◌, drop, length, get_or, true, false, Some, refl, sym, ap, subst, ◌∙◌, add-one, drop-cons}
use Rattle.std.proofs.lemmas.List.{drop_all}
use Rattle.gc_types.specs.Declarations.{Declaration}
use Rattle.gc_commands.specs.declared.command.Command.{Command}
use Rattle.gc_image.specs.Declaring.{DeclareInTurn, CommandDeclares}
use Rattle.gc_image.specs.Steps.{Declared}

-- what is declared in turn from here is what is from the start
pub record InTurn (commands : List Command) (types : List Declaration) (i : ℕ) : Type 0 where
  pub onward : (all : List Declaration) → DeclareInTurn [] commands all → DeclareInTurn types (drop i commands) all
  pub whole : (all : List Declaration) → DeclareInTurn types (drop i commands) all → DeclareInTurn [] commands all

pub turn_start : (commands : List Command) → InTurn commands [] 0
turn_start commands = record { onward = λ all turn. turn; whole = λ all turn. turn }

one_declared : (types : List Declaration) (command : Command) (d e : Declaration) → CommandDeclares types command d → CommandDeclares types command e → d ≡ e
one_declared types command d e this that = let both : Some d ≡ Some e = sym this.spelled ∙ that.spelled in cc

module _ (commands : List Command) (types : List Declaration) (i : ℕ) (command : Command) (below : i < length commands) (is : command ≡ get_or commands i command) where
  here : drop i commands ≡ command ∷ drop (suc i) commands
  here = drop-cons commands i command below ∙ ap (λ c. c ∷ drop (suc i) commands) (sym is)

  next : drop (i + 1) commands ≡ drop (suc i) commands
  next = ap (λ n. drop n commands) (add-one i)

  pub turn_more : (new : List Declaration) → Declared types command new true → InTurn commands types i → InTurn commands new (i + 1)
  turn_more new declared turn = record {
    onward = λ all start.
        let from : DeclareInTurn types (command ∷ drop (suc i) commands) all = subst (λ cs. DeclareInTurn types cs all) here (turn.onward all start) in
        let same : types ++ from.0 ∷ [] ≡ new = ap (λ d. types ++ d ∷ []) (one_declared types command from.0 declared.0 from.1.0 declared.1.0) ∙ sym declared.1.1 in
        subst (λ cs. DeclareInTurn new cs all) (sym next) (subst (λ ts. DeclareInTurn ts (drop (suc i) commands) all) same from.1.1);
    whole = λ all rest.
        let behind : DeclareInTurn (types ++ declared.0 ∷ []) (drop (suc i) commands) all =
        subst (λ ts. DeclareInTurn ts (drop (suc i) commands) all) declared.1.1 (subst (λ cs. DeclareInTurn new cs all) next rest) in
        let from : DeclareInTurn types (command ∷ drop (suc i) commands) all = (declared.0, (declared.1.0, behind)) in
        turn.whole all (subst (λ cs. DeclareInTurn types cs all) (sym here) from);
  }

  pub turn_none : (new : List Declaration) → Declared types command new false → InTurn commands types i → (all : List Declaration) → DeclareInTurn [] commands all → ⊥
  turn_none new none turn all start =
      let from : DeclareInTurn types (command ∷ drop (suc i) commands) all = subst (λ cs. DeclareInTurn types cs all) here (turn.onward all start) in
      none from.0 from.1.0

pub turn_end : (commands : List Command) (types : List Declaration) (i : ℕ) → length commands ≤ i → InTurn commands types i → DeclareInTurn [] commands types
turn_end commands types i over turn =
    let done : DeclareInTurn types [] types = refl in
    turn.whole types (subst (λ cs. DeclareInTurn types cs types) (sym (drop_all i commands over)) done)

-- the types that commands declare in turn are these alone
pub one_turn : (types : List Declaration) (commands : List Command) (all others : List Declaration) → DeclareInTurn types commands all → DeclareInTurn types commands others → all ≡ others
one_turn types [] all others this that = sym this ∙ that
one_turn types (command ∷ commands) all others this that =
    one_turn (types ++ this.0 ∷ []) commands all others this.1.1
    (subst (λ d. DeclareInTurn (types ++ d ∷ []) commands others) (one_declared types command that.0 this.0 that.1.0 this.1.0) that.1.1)
