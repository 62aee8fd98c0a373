mod PlaceLaws
mod InsideLaws
