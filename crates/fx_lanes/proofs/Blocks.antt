-- A row whose front is blended: one block more, and one place more.
-- Cited by the proof of the blending kernel.
use Rattle.std.proofs.Common.{◌≡◌, ℕ, ◌+◌, ◌%◌, ◌/◌, ◌<◌, ◌≤◌, ◌++◌, ◌∷◌, [], List, length, map, take, drop, get_or, set, replicate, sym, ap, ◌∙◌, arith}
use Rattle.std.proofs.lemmas.List.{length-map, length-drop, length-take-le, map-append, map_more}
use Rattle.std.specs.List.{flat_map}
use lib.Lanes.{zip2, chunk, put_chunk}
use Rattle.fx_base.specs.Pixel.{blended, channel, pixel_of, red_of, green_of, blue_of}
use Rattle.fx_lanes.specs.Blending.{channels, packed_color, pixels_of}
use Rattle.fx_lanes.proofs.Rows.{Made, made_block, made_place, made_chunk, made_read, made_as, take-add}
use Rattle.fx_lanes.proofs.Lanes.{block_is, one_is}

pub blended_more : (old row : List ℕ) (i color : ℕ) (over block : List ℕ) → Made old row (map (blended (packed_color color)) (take i old)) i → i + 4 ≤ length old
    → over ≡ flat_map channels (replicate 4 (color / 256)) → block ≡ pixels_of (zip2 (λ o u. channel o (color % 256) u) over (flat_map channels (chunk i 4 row)))
    → Made old (put_chunk i row block) (map (blended (packed_color color)) (take (i + 4) old)) (i + 4)
blended_more old row i color over block m room o b =
    let f = blended (packed_color color) in
    let four : length (take 4 (drop i old)) ≡ 4 = length-take-le 4 (drop i old) (let l = length-drop i old in omega arith) in
    let is : block ≡ map f (take 4 (drop i old)) =
    b
    ∙ ap (λ x. pixels_of (zip2 (λ p q. channel p (color % 256) q) x (flat_map channels (chunk i 4 row)))) o
    ∙ ap (λ x. pixels_of (zip2 (λ p q. channel p (color % 256) q) (flat_map channels (replicate 4 (color / 256))) (flat_map channels x))) (made_chunk old row (map f (take i old)) i 4 m)
    ∙ block_is 4 color (take 4 (drop i old)) four in
    let long : length block ≡ 4 = ap length is ∙ length-map (take 4 (drop i old)) f ∙ four in
    made_as old (put_chunk i row block) (map f (take i old) ++ block) (map f (take (i + 4) old)) (i + 4)
    (ap (λ x. map f (take i old) ++ x) is ∙ sym (map-append f (take i old) (take 4 (drop i old))) ∙ ap (λ x. map f x) (sym (take-add i 4 old)))
    (made_block old row (map f (take i old)) block i 4 m long room)

pub blended_next : (old row : List ℕ) (i color v : ℕ) → Made old row (map (blended (packed_color color)) (take i old)) i → i < length old
    → v ≡ pixel_of (channel (red_of (color / 256)) (color % 256) (red_of (get_or row i 0))) (channel (green_of (color / 256)) (color % 256) (green_of (get_or row i 0))) (channel (blue_of (color / 256)) (color % 256) (blue_of (get_or row i 0)))
    → Made old (set row i v) (map (blended (packed_color color)) (take (i + 1) old)) (i + 1)
blended_next old row i color v m here e =
    let f = blended (packed_color color) in
    let is : v ≡ f (get_or old i 0) = e ∙ one_is color (get_or row i 0) ∙ ap f (made_read old row (map f (take i old)) i m here) in
    made_as old (set row i v) (map f (take i old) ++ v ∷ []) (map f (take (i + 1) old)) (i + 1)
    (ap (λ x. map f (take i old) ++ x ∷ []) is ∙ sym (map_more f old i 0 here))
    (made_place old row (map f (take i old)) i v m here)
