-- What `worked` prints in a served session.
use Rattle.std.proofs.Common.{◌≡◌, ℕ, List, [], ◌∷◌, Bool, true, false, Result, Ok, Err, inl, inr, refl, ap, sym, ◌∙◌}
use Rattle.std.proofs.Common.{subst, arith, length, slice_index}
use Rattle.std.proofs.lemmas.List.Elements.{All-head, All-tail}
use Rattle.std.specs.Bool.{MatchBool}
use Rattle.std.specs.Prelude.{IsOkAnd}
use Rattle.std.specs.List.{All}
use Rattle.replay_session.proofs.LawSteps.{made_by_lines}
use Rattle.replay_session.specs.LinesWork.{AnswersLead, Leads, LinesMove, TellsWork}
use Rattle.replay_session.specs.Replies.{Answers, HadMemory, IsReplyTo, Replies, Says, worked_line, is_over}
use Rattle.checkpoints.specs.Edits.{MayShorten as ShortenedBy}
use Rattle.checkpoints.specs.declared.effect.Effect.{Effect}
use Rattle.checkpoints.specs.declared.effect.Effect.TheVariants.{Patch}
use Rattle.scenario.specs.Edits.{row}
use Rattle.scenario.specs.Scenario.{Scenario}
use Rattle.replay_session.specs.Turns.{Turn, accepted, applied}
use Rattle.replay_session.specs.Session.{TakesMemory}
use Rattle.replay_session.specs.Stages.{Stage, fresh_apart}
use Rattle.replay_session.specs.Work.{LineMoves, MayShorten}
use Rattle.commands.specs.declared.command.Command.{Command}
use Rattle.commands.specs.declared.command.Command.TheVariants.{Edit, Worked}
use Rattle.commands.specs.declared.fault.Fault.{Fault}

-- none is left where one list is as long as another that is empty
none-left : (lines replies : List (List ℕ)) → replies ≡ [] → length replies ≡ length lines → lines ≡ []
none-left [] replies none same = refl
none-left (line ∷ lines) replies none same =
    absurd (let e : length replies ≡ 0 = ap (λ (rs : List (List ℕ)). length rs) none in omega arith)

-- after the last line that is answered there is none
goes-on : (next : Stage) (lines replies : List (List ℕ)) (over : Bool) → length replies ≡ length lines
    → (Answers next lines replies → (new : Stage) × Leads next lines replies new)
    → MatchBool over (replies ≡ []) (Answers next lines replies) → (new : Stage) × Leads next lines replies new
goes-on next lines replies true same more none = (
  next,
  subst (λ (ls : List (List ℕ)). Leads next ls replies next) (sym (none-left lines replies none same))
      (none, refl),
)
goes-on next lines replies false same more answers = more answers

pub answers_lead : AnswersLead
answers_lead old [] replies answers same = (old, (answers, refl))
answers_lead old (line ∷ lines) [] answers same = absurd answers
answers_lead old (line ∷ lines) (reply ∷ replies) (next, here, rest) same =
    let fewer : length replies ≡ length lines = omega arith in
    let more = goes-on next lines replies (is_over old.turn) fewer
    (λ answers. answers_lead next lines replies answers fewer) rest in
    (more.0, (next, here, more.1))

-- a trail that isn't short wasn't before
whole-before : (effect : Effect) (old new : Bool) → ShortenedBy effect old new → new ≡ false → old ≡ false
whole-before (Patch addr code) true new may whole = absurd (let e : true ≡ false = sym (may refl) ∙ whole in cc)
whole-before (Patch addr code) false new may whole = refl
whole-before _ old new may whole = sym may ∙ whole

was-whole : (sc : Scenario) (outcome : Result Command Fault) (old new : Bool) → MayShorten sc outcome old new
    → new ≡ false → old ≡ false
was-whole sc (Ok (Edit edit)) old new may whole = whole-before (row sc edit).effect old new may whole
was-whole sc (Ok _) old new may whole = sym may ∙ whole
was-whole sc (Err fault) old new may whole = sym may ∙ whole

next-is : (turn : Turn) (made : ℕ) (line text : List ℕ) (next : Turn) → Says turn made (accepted turn line) text next
    → HadMemory text
    → next ≡ applied turn line
next-is turn made line text next (inl says) wanted = says.1
next-is turn made line text next (inr wants) wanted = absurd (wanted wants.1)

-- the lines moved the work, one after another
lines-moved : (old new : Stage) (lines replies : List (List ℕ)) → Leads old lines replies new → All HadMemory replies
    → new.short ≡ false
    → (old.short ≡ false) × LinesMove old.turn lines old.work new.work
lines-moved old new [] replies (none, same) wanted whole =
    (ap (λ (s : Stage). s.short) (sym same) ∙ whole, ap (λ (s : Stage). s.work) same)
lines-moved old new (line ∷ lines) [] leads wanted whole = absurd leads
lines-moved old new (line ∷ lines) (reply ∷ replies) (next, (says, moves, shortens), leads) wanted whole =
    let later = lines-moved next new lines replies leads (All-tail HadMemory reply replies wanted) whole in
    let here = All-head HadMemory reply replies wanted in
    let rest = subst (λ (turn : Turn). LinesMove turn lines next.work new.work)
    (next-is old.turn next.work.made line reply next.turn says here) later.1 in (
      was-whole old.turn.scenario (accepted old.turn line) old.short next.short shortens later.0,
      (next.work, moves here later.0, rest),
    )

-- a line with a number isn't `refused 1`
no-refusal : (n : ℕ) (text : List ℕ) → text ≡ worked_line n → HadMemory text
no-refusal n text told refused =
    let e : 119 ≡ 114 = ap (λ (xs : List ℕ). slice_index xs 0) (sym told ∙ refused) in
    omega (arith, e)

-- the reply if a line asks for the work
told : (stage next : Stage) (line text : List ℕ) → accepted stage.turn line ≡ Ok Worked → Replies stage line text next
    → text ≡ worked_line next.work.made
told stage next line text asks (inl says, moves, shortens) =
    let P : Result Command Fault → Type 0 = λ r. IsReplyTo stage.turn.scenario next.work.made r text in
    subst P asks says.0
told stage next line text asks (inr wants, moves, shortens) =
    let P : Result Command Fault → Type 0 = λ r. IsOkAnd r (TakesMemory stage.turn.scenario) in
    absurd (subst P asks wants.0)

pub tells_work : TellsWork
tells_work s turn lines replies stage next line text pos leads wanted whole asks answered =
    let is = told stage next line text asks answered in
    let short : next.short ≡ stage.short = subst
    (λ (r : Result Command Fault). MayShorten stage.turn.scenario r stage.short next.short) asks answered.2 in
    let moved = subst (λ (r : Result Command Fault). LineMoves stage.turn.scenario r stage.work next.work) asks
    (answered.1 (no-refusal next.work.made text is) (short ∙ whole)) in
    let made = made_by_lines s turn lines stage.work pos
    (lines-moved (fresh_apart s turn) stage lines replies leads wanted whole).1 in
    (made.0, made.1, is ∙ ap worked_line (moved.0.1 ∙ made.2))
