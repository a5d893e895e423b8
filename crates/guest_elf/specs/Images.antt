-- What callers see of an image.
use Rattle.std.specs.Prelude.{ℕ, ◌+◌, ◌%◌, ◌^◌, ◌&&◌, nat_le, Bool, List, is_some, map, Option}
use Rattle.guest_elf.specs.Hooks.{hooks_by}
use Rattle.guest_elf.specs.Names.{named_by}
use Rattle.guest_elf.specs.Profiles.{is_aligned}
use Rattle.guest_elf.specs.Segments.{SegmentContent, content_of, loaded}
use Rattle.guest_elf.specs.declared.hook.Hook.{Hook}
use Rattle.guest_elf.specs.declared.image.Image.{Image}
use Rattle.guest_elf.specs.declared.profile.Profile.{Profile}
use Rattle.guest_elf.specs.declared.segment.Segment.{Segment}

-- the loaded segments, in the order of the program headers
unfoldable pub segments_of : Image → List Segment
segments_of image = image.segments.items

-- what a caller sees of them
abbrev pub contents_of : Image → List SegmentContent
contents_of image = map content_of (segments_of image)

-- the address of the first instruction (ELF header, e_entry)
unfoldable pub entry_of : Image → ℕ
entry_of image = image.entry

-- what the file was read for
unfoldable pub profile_of : Image → Profile
profile_of image = image.profile

-- the byte that the image loads at an address
unfoldable pub loaded_at : Image → ℕ → Option ℕ
loaded_at image address = loaded (segments_of image) address

-- is the byte at this distance after an address loaded?
abbrev pub is_loaded : Image → ℕ → ℕ → Bool
is_loaded image addr i = is_some (loaded_at image ((addr + i) % 2 ^ 32))

-- may an instruction of this many bytes be at an address? It may begin there, and none of its bytes lies past the last
-- address
abbrev pub has_room : Image → ℕ → ℕ → Bool
has_room image addr len = is_aligned (profile_of image).isa addr && nat_le (addr + len) (2 ^ 32)

-- is an address that of a loaded word: one at which an instruction of four bytes may be, each of which is loaded?
unfoldable pub is_word : Image → ℕ → Bool
is_word image addr =
    has_room image addr 4 && (is_loaded image addr 0
    && (is_loaded image addr 1 && (is_loaded image addr 2 && is_loaded image addr 3)))

-- and that of a loaded half, of two bytes?
unfoldable pub is_half_word : Image → ℕ → Bool
is_half_word image addr = has_room image addr 2 && (is_loaded image addr 0 && is_loaded image addr 1)

-- the name of the function at an address, by the image's symbols
unfoldable pub name_at : Image → ℕ → List ℕ
name_at image address = named_by image.names address

-- the functions of the heap that the image's symbols name, by their addresses
unfoldable pub hooks_of : Image → List (ℕ × Hook)
hooks_of image = hooks_by image.names.strings.now image.names.symbols.items
