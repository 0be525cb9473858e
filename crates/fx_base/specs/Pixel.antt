-- Pixels as numbers 0x00RRGGBB, and a colour laid over one.
use Rattle.std.specs.Prelude.{ℕ, ◌+◌, ◌*◌, ◌-◌, ◌/◌, ◌%◌}
use Rattle.fx_base.specs.declared.color.Color.{Color}

-- one channel of a colour of this opacity over what is under it, rounded to the nearest
unfoldable pub channel : ℕ → ℕ → ℕ → ℕ
channel over opacity under = (over * opacity + under * (255 - opacity) + 127) / 255

-- the pixel of three channels
abbrev pub pixel_of : ℕ → ℕ → ℕ → ℕ
pixel_of r g b = r * 65536 + g * 256 + b

abbrev pub red_of : ℕ → ℕ
red_of pixel = pixel / 65536 % 256

abbrev pub green_of : ℕ → ℕ
green_of pixel = pixel / 256 % 256

abbrev pub blue_of : ℕ → ℕ
blue_of pixel = pixel % 256

-- the pixel after a colour was laid over it
unfoldable pub blended : Color → ℕ → ℕ
blended color under = pixel_of
    (channel color.r color.a (red_of under))
    (channel color.g color.a (green_of under))
    (channel color.b color.a (blue_of under))

-- the pixel before anything is laid over it
abbrev pub white : ℕ
white = 0x00ff_ffff
