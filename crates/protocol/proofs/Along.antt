-- What holds of the end that a plan comes to holds along it. Assumes nothing.
use Rattle.protocol.specs.declared.Supplied.{Supplied}
use Rattle.protocol.specs.Plan.{Plan, Ending, ends, asks, draws_nonce, draws_passkey, tests, kind_of, reply, runs, Along}

pub along_end : {S : Type 0} (a : Supplied) (P : Ending S → Type 0) (p : Plan S) → P (runs a p) → Along a P p
unfolding runs Along
along_end a P (ends e) h = h
along_end a P (asks q k) h = along_end a P (k (reply a (kind_of q))) h
along_end a P (draws_nonce k) h = along_end a P (k a.nonce) h
along_end a P (draws_passkey k) h = along_end a P (k a.passkey) h
along_end a P (tests b p q) h = (λ e. along_end a P p (rw e at h), λ e. along_end a P q (rw e at h))
