-- A scenario's run begins with no errors, and so with no use, and with no output.
use Rattle.std.proofs.Common.{◌≡◌, List, [], ◌∷◌, refl, subst, sym}
use Rattle.clean_reports.specs.Uses.{NoUse}
use Rattle.guest_machine.specs.Run.{poked, start_state}
use Rattle.guest_machine.specs.State.{State}
use Rattle.scenario.specs.Scenario.{Scenario, first_state, with_words}
use Rattle.scenario.specs.declared.written.Written.{Written}

-- words that are written raise no errors
words-events : (words : List Written) (s : State) → (with_words s words).events ≡ s.events
unfolding poked
words-events [] s = refl
words-events (w ∷ ws) s = words-events ws (poked s w.addr w.code)

pub first-none : (sc : Scenario) → NoUse (first_state sc).events
unfolding first_state start_state
first-none sc = subst NoUse (sym (words-events sc.words (start_state sc.image))) tt

-- nor do they write anything out
words-output : (words : List Written) (s : State) → (with_words s words).output ≡ s.output
unfolding poked
words-output [] s = refl
words-output (w ∷ ws) s = words-output ws (poked s w.addr w.code)

pub first-unwritten : (sc : Scenario) → (first_state sc).output ≡ []
unfolding first_state start_state
first-unwritten sc = words-output sc.words (start_state sc.image)
