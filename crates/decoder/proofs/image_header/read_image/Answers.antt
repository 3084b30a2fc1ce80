use Rattle.std.proofs.Common.{Result}
use Rattle.header.specs.declared.ParsedHeader.{ParsedHeader}
use Rattle.error.specs.declared.WbmpError.{WbmpError}
use Rattle.std.proofs.lemmas.Result.{err_from_is_err_and}
use mathlib.Core.Path.{◌≡◌, ◌∙◌, sym}
use lib.ListN.{length}
use Rattle.error.specs.Answer.{bind}
use Rattle.header.specs.Settings.{settings}
use Rattle.header.specs.Read.{meaning}
use Rattle.options.specs.Limits.{decoding}
use Rattle.decoder.specs.Image.{test_body, image_read}
use Rattle.decoder.proofs.Headed.{on-header, tested}
use Rattle.decoder.proofs.image_header.read_image.Goals as goal
use Rattle.decoder.proofs.image_header.read_image.Goals.{After-parse_header_mode}

header_read : (c : After-parse_header_mode) (x : Result ParsedHeader WbmpError) → c.parse_header_mode.result ≡ x
    → let a = c.args in
    image_read (decoding a.options) a.bytes.now ≡ bind (meaning x) (test_body (decoding a.options) (length a.bytes.now))
header_read c x e =
    let a = c.args in
    tested (decoding a.options) a.bytes.now
    ∙ on-header (decoding a.options) a.bytes.now (settings c.into.result) c.parse_header_mode.result x
    c.into.ensures c.parse_header_mode.ensures e

pub returns : goal.returns
returns c = c.test_body.ensures ∙ sym (header_read (goal.at.returns c).After-parse_header_mode _ c.in_ok-h.was)

pub returns-in_err-h : goal.returns-in_err-h
returns-in_err-h c =
    let p = err_from_is_err_and c.from_residual.result c.from_residual.ensures.1 in
    rw (p.1, p.2) (sym (header_read (goal.at.returns-in_err-h c).After-parse_header_mode _ c.in_err-h.was))
