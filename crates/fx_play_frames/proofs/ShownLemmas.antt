-- What a canvas shows is its picture's image.
use Rattle.std.proofs.Common.{◌≡◌, ◌<◌, ℕ, List, ◌++◌, OnOk, Option, Some, Result, Ok, Err, append_assoc, length, map, sym, ◌∙◌, ap, refl, zero-add, arith}
use Rattle.std.specs.List.{range_with_len}
use Rattle.fx_canvas.specs.Surfaces.{IsSurface, Surface, row_at}
use Rattle.fx_canvas_laws.specs.Frames.{Shows}
use Rattle.fx_frame_text.specs.Canvases.{image_on}
use Rattle.fx_delta.specs.Pictures.{Picture}
use Rattle.fx_frame_text.specs.Frames.{Image, image_of}
use Rattle.fx_frame_text.specs.Writers.{Follows, IsBehind}
use Rattle.fx_frame_text.specs.declared.forms.Form.{Form}
use Rattle.fx_frame_text.specs.declared.forms.Form.TheVariants as form
use Rattle.fx_frame_text.specs.declared.writers.FrameWriter.{FrameWriter}
use Rattle.fx_frame_text.proofs.AlikeLemmas.{AreAlike, picture_alike}
use Rattle.fx_picture.specs.Pixels.{pixel}
use Rattle.fx_picture.specs.declared.entries.Entry.{Entry}
use Rattle.fx_port.specs.Pieces.{GrewByPrefix}
use Rattle.std.proofs.lemmas.List.{ext_get_or}
use Rattle.std.proofs.lemmas.List.FromFn.{get_or-map-range_with_len, length-map-range_with_len}

row_alike : (s : Surface) (picture : List Entry) → IsSurface s → Shows s picture → (y : ℕ) → y < s.height
    → (row_at s.rows y).pixels ≡ map (λ x. pixel picture x y) (range_with_len 0 s.width)
row_alike s picture whole shows y h =
    let row = (row_at s.rows y).pixels in
    let long : length row ≡ s.width = whole.across y (omega (arith, h, whole.down)) in
    let wide : length (map (λ x. pixel picture x y) (range_with_len 0 s.width)) ≡ s.width =
    length-map-range_with_len (λ x. pixel picture x y) 0 s.width in
    ext_get_or 0 row (map (λ x. pixel picture x y) (range_with_len 0 s.width)) (long ∙ sym wide)
    (λ x hx. shows x y (omega (arith, hx, long)) h
    ∙ sym (get_or-map-range_with_len (λ x. pixel picture x y) 0 s.width x x 0 (omega (arith, hx, long)) (zero-add x)))

-- the image of what a canvas shows is its picture's
pub shown_alike : (s : Surface) (picture : List Entry) → IsSurface s → Shows s picture
    → AreAlike (image_on s) (image_of s.width s.height (pixel picture))
shown_alike s picture whole shows = record { wide = refl; high = refl; rows = row_alike s picture whole shows }

-- a part of the front is a part of the whole
pub part_of : {old new : Option (List ℕ)} {front : List ℕ} (text : List ℕ) → GrewByPrefix old new front
    → GrewByPrefix old new (front ++ text)
part_of {old} {new} {front} text part = record {
  front = part.front;
  prefix = (
    part.prefix.0 ++ text,
    sym (append_assoc part.front part.prefix.0 text) ∙ ap (λ l. l ++ text) part.prefix.1,
  );
  told = part.told;
}

-- a writer that stands behind an image stands behind one that is alike
behind_alike : (form : Form) (shown : Picture) {one other : Image} → AreAlike one other → IsBehind form shown (Some one)
    → IsBehind form shown (Some other)
behind_alike form.Text shown alike behind = tt
behind_alike form.Ppm shown alike behind = tt
behind_alike form.Nothing shown alike behind = tt
behind_alike form.Delta shown alike behind = behind ∙ picture_alike alike

pub follows_alike : {E : Type 0} (result : Result (Unit {0}) E) (writer : FrameWriter) {one other : Image} → AreAlike one other
    → OnOk result (Follows writer (Some one)) → OnOk result (Follows writer (Some other))
follows_alike (Ok done) writer alike behind = behind_alike writer.form writer.view alike behind
follows_alike (Err error) writer alike behind = tt
