-- `product-wraps`: the product with the prime of the checksum, without what goes past 64 bits, from parts of the number that stay below. Assumes nothing.
use Rattle.std.proofs.Common.{◌≡◌, ℕ, ◌+◌, ◌*◌, ◌/◌, ◌%◌, ◌^◌, sym, ap, ◌∙◌, arith}
use native.Mathlib.Nat.{add-mod-mod, mul-add-mod_self_right}
use Rattle.lines.specs.Checksum.{prime}

pub product-wraps : (h : ℕ) → (h % 16777216 * 1099511627776 + (h / 4294967296 * 435 % 4294967296 * 4294967296 + h % 4294967296 * 435) % 2 ^ 64) % 2 ^ 64 ≡ h * prime % 2 ^ 64
product-wraps h =
    let high = h % 16777216 * 1099511627776 in
    let low = h / 4294967296 * 435 % 4294967296 * 4294967296 + h % 4294967296 * 435 in
    let over = h / 16777216 + h / 4294967296 * 435 / 4294967296 in
    let parts : over * 2 ^ 64 + (high + low) ≡ h * prime = omega arith in
    add-mod-mod high low (2 ^ 64) ∙ sym (mul-add-mod_self_right over (2 ^ 64) (high + low)) ∙ ap (λ (x : ℕ). x % 2 ^ 64) parts
