-- `bit_of` meets its contract.
use Rattle.std.proofs.Common.{◌≡◌, ℕ, zero, suc, ◌-◌, ◌/◌, ◌%◌, ◌^◌, ◌<◌, refl, arith}
use Rattle.cylinder.specs.Packed.{bit_of}
use Rattle.cylinder_reader.proofs.unpacking.bit_of.Goals as goal

-- Bit k of a byte has the weight 2 ^ (7 - k).
bit_is : (x k : ℕ) → k < 8 → x / 2 ^ (7 - k) % 2 ≡ bit_of x k
unfolding bit_of
bit_is x zero h = refl
bit_is x (suc zero) h = refl
bit_is x (suc (suc zero)) h = refl
bit_is x (suc (suc (suc zero))) h = refl
bit_is x (suc (suc (suc (suc zero)))) h = refl
bit_is x (suc (suc (suc (suc (suc zero))))) h = refl
bit_is x (suc (suc (suc (suc (suc (suc zero)))))) h = refl
bit_is x (suc (suc (suc (suc (suc (suc (suc zero))))))) h = omega arith
bit_is x (suc (suc (suc (suc (suc (suc (suc (suc k)))))))) h = absurd (omega arith)

pub returns : goal.returns
returns c = bit_is c.args.x c.args.k c.requires
