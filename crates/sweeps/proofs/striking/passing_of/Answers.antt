use Rattle.std.proofs.Common.{sym, subst}
use Rattle.sweeps.specs.Recall.{Passes}
use Rattle.sweeps.proofs.RecallSteps.{passes-flip, passes-set}
use Rattle.sweeps.proofs.striking.passing_of.Goals as goal

pub returns-in-Flip : goal.returns-in-Flip
returns-in-Flip c s shows =
    subst (λ glitch. Passes s c.args.setup.now glitch c.passing_register.result) (sym c.in-Flip.is)
    (passes-flip s c.args.setup.now c.in-Flip.register c.in-Flip.mask c.passing_register.result
    (c.passing_register.ensures s shows))

pub returns-in-Set : goal.returns-in-Set
returns-in-Set c s shows =
    subst (λ glitch. Passes s c.args.setup.now glitch c.passing_register-in-Set.result) (sym c.in-Set.is)
    (passes-set s c.args.setup.now c.in-Set.register c.in-Set.value c.passing_register-in-Set.result
    (c.passing_register-in-Set.ensures s shows))

pub returns-in-Turn : goal.returns-in-Turn
returns-in-Turn c s shows =
    subst (λ glitch. Passes s c.args.setup.now glitch c.passing_word.result) (sym c.in-Turn.is)
    (c.passing_word.ensures s shows c.in-Turn.mask)
