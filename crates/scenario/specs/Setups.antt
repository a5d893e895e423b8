-- The setup of a run by default.
use Rattle.std.specs.Prelude.{ℕ, List}
use Rattle.guest_elf.specs.Images.{hooks_of}
use Rattle.guest_elf.specs.declared.image.Image.{Image}
use Rattle.guest_machine.specs.declared.setup.Setup.{Setup}

-- Memcheck's redzone, in bytes (Valgrind core manual, section 2.6, `--redzone-size`)
abbrev pub usual_redzone : ℕ
usual_redzone = 16

-- Memcheck's volume of freed blocks, in bytes (Memcheck manual, section 4.3, `--freelist-vol`)
abbrev pub usual_volume : ℕ
usual_volume = 20000000

-- an input, Memcheck's redzone and volume of freed blocks, and the functions of the heap that the program has by name
abbrev pub setup_with : Image → List ℕ → Setup
setup_with image input = record {
  input = input;
  redzone = usual_redzone;
  volume = usual_volume;
  hooks = hooks_of image;
}
