use Rattle.std.proofs.Common.{◌-◌, ◌≤◌}
use Rattle.shadow_memory.specs.Firsts.{NonePass}
use Rattle.shadow_memory.specs.Memories.{shadows_in}
use Rattle.shadow_memory.specs.Ranges.{above}
use Rattle.shadow_memory.specs.Shadows.{is_bad}
use Rattle.shadow_memory.proofs.memory.Memory.first_bad.Given as goal

abbrev pub invariant-loop-done : goal.invariant-loop-done
invariant-loop-done l = record {
  within : l.done ≤ l.len;
  fine : NonePass (λ k. is_bad l.need_defined (shadows_in l.self (above l.addr k))) 0 l.done;
}

abbrev pub decreases-loop-done : goal.decreases-loop-done
decreases-loop-done l = l.len - l.done
