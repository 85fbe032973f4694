-- A sample as a word of a ring.
use Rattle.std.specs.Prelude.{ℕ, ◌+◌, ◌*◌, ◌^◌}
use Rattle.like_choice.specs.declared.samples.sample.Kind.TheVariants.{Like, Look}
use Rattle.like_choice.specs.declared.samples.sample.{Kind.Kind, Sample.Sample}

-- the bit of the kind
abbrev pub kind_bit : Kind → ℕ
kind_bit Like = 0
kind_bit Look = 1

-- the page has the low 32 bits, the kind one, and the number in sequence the rest
abbrev pub sample_word : Sample → ℕ
sample_word s = s.page + kind_bit s.kind * 2 ^ 32 + s.sequence * 2 ^ 33
