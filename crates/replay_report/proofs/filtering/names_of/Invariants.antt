use Rattle.std.proofs.Common.{◌≡◌, map, take}
use Rattle.replay_report.specs.Filtering.{names_of}
use Rattle.replay_report.proofs.filtering.names_of.Given as goal

abbrev pub invariant-loop-addr : goal.invariant-loop-addr
invariant-loop-addr l = map (λ name. name.now) l.names.items ≡ names_of l.image (take l.addr-index l.trace)
