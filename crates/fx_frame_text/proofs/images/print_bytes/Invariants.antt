-- the pixels so far are printed
use Rattle.std.proofs.Common.{◌≡◌, take}
use Rattle.std.specs.List.{flat_map}
use Rattle.fx_frame_text.specs.Frames.{pixel_bytes}
use Rattle.fx_frame_text.proofs.images.print_bytes.Given as goal

abbrev pub invariant-loop-pixel : goal.invariant-loop-pixel
invariant-loop-pixel l = l.bytes.items ≡ flat_map pixel_bytes (take l.pixel-index l.row)
