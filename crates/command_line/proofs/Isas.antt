-- The name of an instruction set is read as the set.
use Rattle.std.proofs.Common.{◌≡◌, ℕ, Bool, true, false, cond, List, Option, Some, None, sym, ap, ◌∙◌}
use Rattle.guest_elf.specs.Profiles.{rv32im, rv32imac, rv32imc}
use Rattle.guest_elf.specs.declared.profile.Isa.{Isa}
use Rattle.command_line.specs.Isas.{isa_name, isa_named}

-- the set that the name of one is read as
abbrev again : Option Isa → Option Isa
again None = None
again (Some isa) = isa_named (isa_name isa)

pub named_again : (isa : Isa) (text : List ℕ) → isa_named text ≡ Some isa → isa_named (isa_name isa) ≡ Some isa
named_again isa text h = go _ _ _ h
  where
    go : (first second third : Bool)
        → cond first (Some rv32im) (cond second (Some rv32imc) (cond third (Some rv32imac) None)) ≡ Some isa
        → isa_named (isa_name isa) ≡ Some isa
    go true second third h = sym (ap again h) ∙ h
    go false true third h = sym (ap again h) ∙ h
    go false false true h = sym (ap again h) ∙ h
    go false false false h = cc
