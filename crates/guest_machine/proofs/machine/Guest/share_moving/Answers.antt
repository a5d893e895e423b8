use Rattle.std.proofs.Common.{◌≡◌, ap₂}
use Rattle.std.proofs.Props.{props}
use Rattle.std.specs.Prelude.{slice_index_or}
use Rattle.shadow_memory.specs.declared.memory.Memory.{Memory}
use Rattle.guest_machine.specs.Registers.{known}
use Rattle.guest_machine.proofs.machine.Guest.share_moving.Goals as goal

pub returns-clause-same : goal.returns-clause-same
returns-clause-same c =
    let old = c.args.self.now in
    let one : IsProp (slice_index_or old.registers 0 (known 0) ≡ known 0) = hlevel props in
    ap₂ (λ (memory : Memory) (zero : slice_index_or old.registers 0 (known 0) ≡ known 0).
    record old { memory = memory; zero = zero }) c.share_moving.ensures.same (one _ _)
