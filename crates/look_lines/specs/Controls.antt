-- The control registers that are shown, and the reply to the look at them.
use Rattle.std.specs.Prelude.{ℕ, ◌==◌, if◌then◌else◌, List, [], ◌++◌, Option, Some, None, codes}
use Rattle.definedness.specs.declared.Bits.{Bits}
use Rattle.guest_elf.specs.Profiles.{has_controls}
use Rattle.guest_machine.specs.Controls.{control_seen}
use Rattle.guest_machine.specs.State.{Core, State}
use Rattle.look_lines.specs.Texts.{bits_text, joined_below}

-- the name of a control register by its number, if it is shown: those of machine mode that any hart has, and the
-- counters (Privileged Architecture 20190608, section 2.2)
unfoldable pub control_name : ℕ → Option (List ℕ)
control_name number =
    if number == 0x300 then Some (codes "mstatus")
    else if number == 0x301 then Some (codes "misa")
    else if number == 0x304 then Some (codes "mie")
    else if number == 0x305 then Some (codes "mtvec")
    else if number == 0x306 then Some (codes "mcounteren")
    else if number == 0x340 then Some (codes "mscratch")
    else if number == 0x341 then Some (codes "mepc")
    else if number == 0x342 then Some (codes "mcause")
    else if number == 0x343 then Some (codes "mtval")
    else if number == 0x344 then Some (codes "mip")
    else if number == 0xB00 then Some (codes "mcycle")
    else if number == 0xB02 then Some (codes "minstret")
    else if number == 0xB80 then Some (codes "mcycleh")
    else if number == 0xB82 then Some (codes "minstreth")
    else if number == 0xC00 then Some (codes "cycle")
    else if number == 0xC01 then Some (codes "time")
    else if number == 0xC02 then Some (codes "instret")
    else if number == 0xC80 then Some (codes "cycleh")
    else if number == 0xC81 then Some (codes "timeh")
    else if number == 0xC82 then Some (codes "instreth")
    else if number == 0xF11 then Some (codes "mvendorid")
    else if number == 0xF12 then Some (codes "marchid")
    else if number == 0xF13 then Some (codes "mimpid")
    else if number == 0xF14 then Some (codes "mhartid")
    else None

-- the line of one: its name, its value and its undefined bits. One without a name has no line
unfoldable pub control_line : Option (List ℕ) → Option Bits → List ℕ
control_line (Some name) (Some bits) = name ++ bits_text bits
control_line _ _ = []

-- the lines of those with a number below another one, in order of their numbers
abbrev pub control_lines : Core → ℕ → List ℕ
control_lines core n = joined_below (λ i. control_line (control_name i) (control_seen core i)) n

-- a number has 12 bits
unfoldable pub controls_text : State → List ℕ
controls_text s = if has_controls s.core.isa then control_lines s.core 4096 else codes "none\n"
