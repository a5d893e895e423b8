-- The sites of calls, one after another.
use Rattle.std.proofs.Common.{◌≡◌, ◌∙◌, ◌++◌, ℕ, zero, suc, ◌+◌, List, [], ◌∷◌, add-one, ap, append_assoc, map}
use Rattle.std.proofs.Common.{refl, slice_get, sym, take}
use Rattle.std.proofs.lemmas.Grind.{flat_map-append}
use Rattle.std.proofs.lemmas.List.{map-append}
use Rattle.std.specs.List.{flat_map}
use Rattle.std.specs.Prelude.{option_to_list}
use Rattle.call_stacks.specs.declared.stack.Frame.{Frame}
use Rattle.look_lines.specs.Lists.{spaced}

take-more : (frames : List Frame) (i : ℕ) → take (suc i) frames ≡ take i frames ++ option_to_list (slice_get frames i)
take-more [] zero = refl
take-more [] (suc i) = refl
take-more (f ∷ fs) zero = refl
take-more (f ∷ fs) (suc i) = ap (λ xs. f ∷ xs) (take-more fs i)

abbrev pub sites_text : List Frame → List ℕ
sites_text frames = flat_map spaced (map (λ frame. frame.site) frames)

pub site-more : (frames : List Frame) (i : ℕ) (begun out new : List ℕ)
    → out ≡ begun ++ sites_text (take i frames) → new ≡ out ++ sites_text (option_to_list (slice_get frames i))
    → new ≡ begun ++ sites_text (take (i + 1) frames)
site-more frames i begun out new so more =
    let first = map (λ (frame : Frame). frame.site) (take i frames) in
    let next = map (λ (frame : Frame). frame.site) (option_to_list (slice_get frames i)) in
    more ∙ ap (λ xs. xs ++ flat_map spaced next) so
    ∙ append_assoc begun (flat_map spaced first) (flat_map spaced next)
    ∙ ap (λ xs. begun ++ xs) (sym (flat_map-append spaced first next)
    ∙ ap (flat_map spaced) (sym (map-append (λ (frame : Frame). frame.site) (take i frames)
    (option_to_list (slice_get frames i))))
    ∙ ap sites_text (sym (take-more frames i) ∙ ap (λ n. take n frames) (sym (add-one i))))
