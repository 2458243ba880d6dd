-- No second answer meets a contract of this crate. Assumes nothing.
use mathlib.Core.Path.{refl}
use Rattle.std.proofs.Common.{ℕ, Fits, w64}
use Rattle.octets.proofs.Settles.{Unique, Settles, only}
use Rattle.fields.proofs.byte.Reads as byte
use Rattle.fields.proofs.half.Reads as half
use Rattle.fields.proofs.word.Reads as word
use Rattle.fields.proofs.array.Reads as array
use Rattle.fields.proofs.within.Reads as within
use Rattle.fields.proofs.bytes4.Reads as bytes4
use Rattle.fields.proofs.bytes2.Reads as bytes2
use Rattle.fields.proofs.place_array.Reads as place_array
use Rattle.fields.proofs.place.Reads as place

pub byte_unique : Unique byte.Post
byte_unique κs a z z' e e' p q = only p q

pub half_unique : Unique half.Post
half_unique κs a z z' e e' p q = only p q

pub word_unique : Unique word.Post
word_unique κs a z z' e e' p q = only p q

pub array_unique : (N : ℕ) (f : Fits w64 N) → Unique (array.Post N f)
array_unique N f κs a z z' e e' p q = only p q

pub within_unique : Unique within.Post
within_unique κs a z z' e e' p q = only p q

pub bytes4_unique : Unique bytes4.Post
bytes4_unique κs a z z' e e' p q = only p q

pub bytes2_unique : Unique bytes2.Post
bytes2_unique κs a z z' e e' p q = only p q

pub place_array_settled : (N : ℕ) (f : Fits w64 N) → Settles (place_array.Post N f) (λ κs e. e.0.now)
place_array_settled N f κs a z z' e e' p q = (refl, only p.octets q.octets)

pub place_settled : Settles place.Post (λ κs e. e.0.now)
place_settled κs a z z' e e' p q = (refl, only p q)
