-- A line that gives the input bytes is answered as it asks, once it is answered as it was read.
use Rattle.std.proofs.Common.{◌≡◌, ℕ, Bool, true, List, length, Option, Some, None, Result, Ok, Err, inl, inr}
use Rattle.std.proofs.Common.{refl, ap, sym, subst}
use Rattle.std.specs.Prelude.{option_map}
use Rattle.checkpoints.specs.Edits.{MayShorten as ShortenedBy}
use Rattle.commands.specs.Faults.{fault_of}
use Rattle.commands.specs.declared.command.Command.{Command}
use Rattle.commands.specs.declared.command.Command.TheVariants.{Edit}
use Rattle.commands.specs.declared.edit.Edit.{Edit as AnEdit}
use Rattle.commands.specs.declared.edit.Edit.TheVariants.{Overwrite, Give}
use Rattle.commands.specs.declared.fault.Fault.{Fault}
use Rattle.commands.specs.declared.fault.Fault.TheVariants.{Memory}
use Rattle.commands.specs.declared.refusal.Refusal.{Refusal}
use Rattle.scenario.specs.Edits.{give_refusal, input_effect, overwrite_refusal, overwritten, row}
use Rattle.scenario.specs.Scenario.{Scenario}
use Rattle.scenario.proofs.InputSteps.{of-input}
use Rattle.replay_session.specs.Replies.{RepliesAs}
use Rattle.replay_session.specs.Stages.{Stage}
use Rattle.replay_session.specs.Turns.{accepted_as, accepted_by, line_refusal, unless_refused}
use Rattle.look_lines.specs.Inputs.{Makes, ReadsFor}
use Rattle.looks.specs.Views.{giving}

-- an edit that may need memory, and that leaves a trail as long as it is
pub record Needs (sc : Scenario) (edit : AnEdit) : Type 0 where
  pub may : (row sc edit).may_fail ≡ true
  pub whole : (old new : Bool) → new ≡ old → ShortenedBy (row sc edit).effect old new

module _ (old new : Stage) (line text : List ℕ) where
  abbrev pub Answered : Result Command Fault → Type 0
  Answered outcome = RepliesAs old outcome text new

  -- memory ran out at reading
  ran-out : (edit : AnEdit) → Needs old.turn.scenario edit → Answered (Err Memory) → Answered (Ok (Edit edit))
  ran-out edit needs replied = elim replied.0 [
    | inl said ↦ (
      inr (needs.may, said.0, said.1),
      λ had. absurd (had said.0),
      needs.whole old.short new.short replied.2,
    )
    | inr wanting ↦ absurd wanting.0
  ]

  -- and only the edit needed it
  short : (edit : AnEdit) → Needs old.turn.scenario edit → (first : Option Fault)
      → Answered (unless_refused first (Err Memory)) → Answered (unless_refused first (Ok (Edit edit)))
  short edit needs None replied = ran-out edit needs replied
  short edit needs (Some fault) replied = replied

  made : (edit : AnEdit) (read : Result AnEdit Fault) → Needs old.turn.scenario edit → (refusal : Option Refusal)
      → (row old.turn.scenario edit).refusal ≡ refusal → Makes refusal edit read
      → Answered (accepted_as old.turn line (giving read)) → Answered (accepted_as old.turn line (Ok (Edit edit)))
  made edit read needs (Some refusal) e is replied =
      subst Answered
      (sym (ap (λ (r : Option Refusal). unless_refused (line_refusal old.turn line)
      (accepted_by (option_map fault_of r) (Edit edit))) e))
      (subst (λ (r : Result AnEdit Fault). Answered (accepted_as old.turn line (giving r))) is replied)
  made edit read needs None e (inl is) replied =
      subst (λ (r : Result AnEdit Fault). Answered (accepted_as old.turn line (giving r))) is replied
  made edit read needs None e (inr is) replied =
      subst Answered
      (sym (ap (λ (r : Option Refusal). unless_refused (line_refusal old.turn line)
      (accepted_by (option_map fault_of r) (Edit edit))) e))
      (short edit needs (line_refusal old.turn line)
      (subst (λ (r : Result AnEdit Fault). Answered (accepted_as old.turn line (giving r))) is replied))

  stays : (one other : List ℕ) (before after : Bool) → after ≡ before
      → ShortenedBy (input_effect one other) before after
  stays one other before after same =
      of-input (λ effect. ShortenedBy effect before after) same same (λ n. same) one other

  pub as_asked : (says read : Result AnEdit Fault) → ReadsFor (length old.turn.scenario.setup.input) says read
      → Answered (accepted_as old.turn line (giving read)) → Answered (accepted_as old.turn line (giving says))
  as_asked (Err fault) read is replied =
      subst (λ (r : Result AnEdit Fault). Answered (accepted_as old.turn line (giving r))) is replied
  as_asked (Ok (Overwrite offset bytes)) read is replied =
      made (Overwrite offset bytes) read
      (record {
        may = refl;
        whole = stays old.turn.scenario.setup.input (overwritten old.turn.scenario.setup.input offset bytes);
      })
      (overwrite_refusal (length old.turn.scenario.setup.input) offset bytes) refl is replied
  as_asked (Ok (Give bytes)) read is replied =
      made (Give bytes) read (record { may = refl; whole = stays old.turn.scenario.setup.input bytes })
      (give_refusal bytes) refl is replied
  as_asked (Ok _) read is replied = absurd is
