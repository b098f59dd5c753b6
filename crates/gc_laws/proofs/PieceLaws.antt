-- Sessions in pieces.
use Rattle.std.proofs.Common.{◌↔◌, ℕ, List, [], ◌∷◌, ◌++◌, Option, None, Some, refl, sym, ap, ap₂, ◌∙◌, subst, append_assoc}
use Rattle.std.specs.List.{flat_map}
use Rattle.std.proofs.lemmas.List.Concat.{flat_map-append}
use Rattle.gc_types.specs.declared.kind.Layouts.{Layouts}
use Rattle.gc_model.specs.Allocation.{Limits}
use Rattle.gc_model.specs.Table.{Table, start, usual_roots}
use Rattle.gc_owner.specs.Limiters.{fresh_limits}
use Rattle.gc_model.specs.Accounts.{no_account}
use Rattle.gc_commands.specs.declared.command.Command.{Command}
use Rattle.gc_commands.specs.declared.reply.Reply.{Reply}
use Rattle.gc_script.specs.Cutting.{EndsWhole}
use Rattle.gc_script.specs.Lines.{lines}
use Rattle.gc_script.specs.Policy.{RunByPolicy}
use Rattle.gc_script.specs.Session.{AreCommandsOf, SessionFrom, Session, reply_line}
use Rattle.gc_script.specs.State.{State, begin}
use Rattle.gc_script.proofs.CutLemmas.{lines_behind}
use Rattle.gc_laws.specs.Pieces.{InPieces, SessionInPieces}

commands_join : (front rest : List (List ℕ)) (cs ds : List Command) → AreCommandsOf front cs → AreCommandsOf rest ds → AreCommandsOf (front ++ rest) (cs ++ ds)
commands_join [] rest [] ds are others = others
commands_join [] rest (c ∷ cs) ds are others = absurd are
commands_join (line ∷ front) rest [] ds are others = absurd are
commands_join (line ∷ front) rest (c ∷ cs) ds are others = (are.0, commands_join front rest cs ds are.1 others)

module _ (layouts : Layouts) (counter : Option ℕ) (s' : State) (limits' : Limits) where
  -- a run, and one from the state that it left, are one run
  runs_join : (cs ds : List Command) (rs qs : List Reply) (s middle : State) (limits between : Limits) → RunByPolicy layouts counter s limits cs rs middle between → RunByPolicy layouts counter middle between ds qs s' limits'
      → RunByPolicy layouts counter s limits (cs ++ ds) (rs ++ qs) s' limits'
  runs_join [] ds [] qs s middle limits between one other =
      subst (λ (x : State). RunByPolicy layouts counter x limits ds qs s' limits') one.0 (subst (λ (l : Limits). RunByPolicy layouts counter middle l ds qs s' limits') one.1 other)
  runs_join [] ds (r ∷ rs) qs s middle limits between one other = absurd one
  runs_join (c ∷ cs) ds [] qs s middle limits between one other = absurd one
  runs_join (c ∷ cs) ds (r ∷ rs) qs s middle limits between (next, then, (step, (follows, run))) other =
      (next, then, (step, (follows, runs_join cs ds rs qs next middle then between run other)))

  -- lines that are run can be cut anywhere
  cut_run : (front rest : List (List ℕ)) (cs : List Command) (rs : List Reply) (s : State) (limits : Limits) → AreCommandsOf (front ++ rest) cs → RunByPolicy layouts counter s limits cs rs s' limits'
      → InPieces layouts counter limits s front rest (flat_map reply_line rs) s' limits'
  cut_run [] rest cs rs s limits are run = record {
    middle = s;
    between = limits;
    front_output = [];
    rest_output = flat_map reply_line rs;
    front_session = record { commands = []; replies = []; are_commands = tt; run = (refl, refl); output_is = refl };
    rest_session = record { commands = cs; replies = rs; are_commands = are; run = run; output_is = refl };
    output_is = refl;
  }
  cut_run (line ∷ front) rest [] rs s limits are run = absurd are
  cut_run (line ∷ front) rest (c ∷ cs) [] s limits are run = absurd run
  cut_run (line ∷ front) rest (c ∷ cs) (r ∷ rs) s limits are (next, then, (step, (follows, run))) =
      let p = cut_run front rest cs rs next then are.1 run in
      record {
        middle = p.middle;
        between = p.between;
        front_output = reply_line r ++ p.front_output;
        rest_output = p.rest_output;
        front_session = record {
          commands = c ∷ p.front_session.commands;
          replies = r ∷ p.front_session.replies;
          are_commands = (are.0, p.front_session.are_commands);
          run = (next, then, (step, (follows, p.front_session.run)));
          output_is = ap (λ (bytes : List ℕ). reply_line r ++ bytes) p.front_session.output_is;
        };
        rest_session = p.rest_session;
        output_is = ap (λ (bytes : List ℕ). reply_line r ++ bytes) p.output_is ∙ sym (append_assoc (reply_line r) p.front_output p.rest_output);
      }

  cut_session : (s : State) (limits : Limits) (front rest : List (List ℕ)) (output : List ℕ) → SessionFrom layouts counter limits s (front ++ rest) output s' limits' → InPieces layouts counter limits s front rest output s' limits'
  cut_session s limits front rest output session =
      subst (λ (bytes : List ℕ). InPieces layouts counter limits s front rest bytes s' limits') (sym session.output_is) (cut_run front rest session.commands session.replies s limits session.are_commands session.run)

  joined_session : (s : State) (limits : Limits) (front rest : List (List ℕ)) (output : List ℕ) → InPieces layouts counter limits s front rest output s' limits' → SessionFrom layouts counter limits s (front ++ rest) output s' limits'
  joined_session s limits front rest output p =
      let one = p.front_session in
      let other = p.rest_session in
      record {
        commands = one.commands ++ other.commands;
        replies = one.replies ++ other.replies;
        are_commands = commands_join front rest one.commands other.commands one.are_commands other.are_commands;
        run = runs_join one.commands other.commands one.replies other.replies s p.middle limits p.between one.run other.run;
        output_is = p.output_is ∙ ap₂ (λ (a b : List ℕ). a ++ b) one.output_is other.output_is ∙ sym (flat_map-append reply_line one.replies other.replies);
      }

-- a session over some lines and others is one in pieces
pub in_pieces : (layouts : Layouts) (counter : Option ℕ) (limits limits' : Limits) (s s' : State) (front rest : List (List ℕ)) (output : List ℕ)
    → SessionFrom layouts counter limits s (front ++ rest) output s' limits' ↔ InPieces layouts counter limits s front rest output s' limits'
in_pieces layouts counter limits limits' s s' front rest output = (cut_session layouts counter s' limits' s limits front rest output, joined_session layouts counter s' limits' s limits front rest output)

-- so of an input that is cut behind a line
pub input_in_pieces : (layouts : Layouts) (first most : ℕ) (front rest output : List ℕ) (t : Table ℕ) → EndsWhole front → Session layouts first most (front ++ rest) output t ↔ SessionInPieces layouts first most front rest output t
input_in_pieces layouts first most front rest output t whole =
    let cut = lines_behind front rest whole in
    let from = begin (start first usual_roots usual_roots) no_account in (
      λ session. record {
        after = session.after;
        limits = session.limits;
        pieces = (in_pieces layouts None (fresh_limits (Some most)) session.limits from session.after (lines front) (lines rest) output).0
            (subst (λ (ls : List (List ℕ)). SessionFrom layouts None (fresh_limits (Some most)) from ls output session.after session.limits) cut session.from_start);
        table_is = session.table_is;
      },
      λ p. record {
        after = p.after;
        limits = p.limits;
        from_start = subst (λ (ls : List (List ℕ)). SessionFrom layouts None (fresh_limits (Some most)) from ls output p.after p.limits) (sym cut)
            ((in_pieces layouts None (fresh_limits (Some most)) p.limits from p.after (lines front) (lines rest) output).1 p.pieces);
        table_is = p.table_is;
      },
    )
