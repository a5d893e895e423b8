-- What the machine's private functions do between two steps.
use Rattle.guest_machine.specs.Alterations.{altered_bytes, altered_core}
use Rattle.guest_machine.specs.Doing.{Changes}
use Rattle.guest_machine.specs.Shows.{bytes_of, core_of}
use Rattle.guest_machine.specs.declared.machine.Guest.{Guest}
use Rattle.run_values.specs.declared.alteration.Act.{Act}

-- an act is done
abbrev pub IsDone : Act → Guest → Guest → Type 0
IsDone act old new =
    Changes old new (altered_core act (core_of old) (bytes_of old)) (altered_bytes act (core_of old) (bytes_of old))
