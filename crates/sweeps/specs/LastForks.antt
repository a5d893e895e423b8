-- That a fork is one of the unedited run has at most one proof, so a type can keep it as a ghost field.
use Rattle.std.specs.Prelude.{Option, Some, None}
use Rattle.std.proofs.Props.{props}
use Rattle.checkpoints.specs.OneProof.{shows-prop}
use Rattle.checkpoints.specs.declared.forks.Fork.{Fork}
use Rattle.scenario.specs.Scenario.{Scenario}
use Rattle.sweeps.specs.Sites.{IsLastFork}

pub last-fork-prop : (sc : Scenario) (last_fork : Option Fork) → IsProp (IsLastFork sc last_fork)
last-fork-prop sc None = hlevel props
last-fork-prop sc (Some fork) = hlevel (shows-prop, props)
