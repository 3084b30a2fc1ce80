use Rattle.std.proofs.Common.{◌≡◌, ℕ, ◌-◌, List, [], length, ◌∙◌, arith}
use lib.Seq.{length-take-le}
use Rattle.error.specs.Answer.{Answer, refuses}
use Rattle.header.specs.Write.{ext_header}
use Rattle.encoder.proofs.PairsLeft.{header-room, whole, left-inside}
use Rattle.encoder.proofs.file.begin_header_before.Goals as goal

pub returns : goal.returns
returns c =
    let b = c.begin_header in
    let r = c.saturating_sub-room in
    let a = c.args in
    let n : ℕ = r.result in
    let last : List ℕ = b.new.out in
    let room : n ≡ length a.out.now - a.body = r.ensures in
    let long : length last ≡ n = b.auto.out ∙ length-take-le n a.out.now (omega arith) in
    let header : List ℕ → Answer (List ℕ) =
    λ lengths. ext_header a.options.strict a.width a.height a.options.ext a.text.now lengths in (
      header-room a.options.strict a.text.now [] (refuses 0 0) a.body a.out.now last n room long b.result b.ensures.0,
      whole a.options.strict a.text.now [] (refuses 0 0) a.body a.out.now last n room long,
      λ lengths h. left-inside a.options.strict a.text.now lengths (header lengths) a.body a.out.now last n
          room long b.result (b.ensures.1 a.options.strict lengths h),
    )
