-- Rows of an image one after another.
use Rattle.std.proofs.Common.{◌≡◌, ◌<◌, ℕ, ◌+◌, ◌-◌, suc, List, [], ◌++◌, Option, sym, ◌∙◌, ap, refl, arith, append-nil, Result, Ok, Err, sum}
use Rattle.std.specs.List.{flat_map, range_with_len, sum_by}
use Rattle.std.proofs.lemmas.List.Sums.{sum_by-cons}
use Rattle.fx_port.specs.Pieces.{Writes, grown}
use Rattle.fx_port.proofs.Growth.{goes_on, reaches_end, stops_within, up_to_start}
use Rattle.fx_frame_text.specs.Frames.{Image, pixel_bytes, row_in}
use Rattle.fx_frame_text.specs.declared.forms.Form.{Form}

-- the rows of an image from a row on
abbrev pub rows_from : Form → Image → ℕ → List ℕ
rows_from form image y = flat_map (λ y. row_in form (image.row y)) (range_with_len y (image.height - y))

-- one row more
pub row_next : (form : Form) (image : Image) (y : ℕ) (given : List ℕ) → y < image.height → given ≡ row_in form (image.row y)
    → rows_from form image y ≡ given ++ rows_from form image (y + 1)
row_next form image y given h is =
    let e : image.height - y ≡ suc (image.height - (y + 1)) = omega arith in
    rw (e, is) refl

-- bytes, and then what a call writes
pub writes_behind : {T E : Type 0} {old mid new : Option (List ℕ)} (result : Result T E) (front back : List ℕ)
    → mid ≡ grown old front → Writes mid new result back → Writes old new result (front ++ back)
writes_behind {old = old} (Ok x) front back e w =
    record { ok = reaches_end (goes_on back [] (goes_on front back (up_to_start old (front ++ back)) refl e) (sym (append-nil back)) w.ok) refl; err = tt }
writes_behind {old = old} (Err x) front back e w =
    record { ok = tt; err = stops_within [] (goes_on front back (up_to_start old (front ++ back)) refl e) (sym (append-nil back)) w.err }

-- the sum of the rows from a row on
abbrev pub sum_from : Image → ℕ → ℕ
sum_from image y = sum_by (λ y. sum (image.row y)) (range_with_len y (image.height - y))

pub sum_next : (image : Image) (y : ℕ) → y < image.height → sum_from image y ≡ sum (image.row y) + sum_from image (y + 1)
sum_next image y h =
    let e : image.height - y ≡ suc (image.height - (y + 1)) = omega arith in
    rw e (sum_by-cons (λ y. sum (image.row y)) y (range_with_len (y + 1) (image.height - (y + 1))))

-- the bytes of a row, wherever they lie
pub given_bytes : {slice text row pixels : List ℕ} → slice ≡ text → text ≡ flat_map pixel_bytes row → row ≡ pixels
    → slice ≡ flat_map pixel_bytes pixels
given_bytes same made is = same ∙ (made ∙ ap (flat_map pixel_bytes) is)
