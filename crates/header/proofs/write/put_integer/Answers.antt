use Rattle.std.proofs.Common.{◌≡◌, ℕ, ◌+◌, ◌∙◌, sym, ap, refl, length}
use Rattle.error.specs.Answer.{written, gives}
use Rattle.laws.proofs.Runs.{emits-part}
use Rattle.mbi.specs.Bytes.{mbi_bytes}
use Rattle.header.proofs.HeaderBytes.{emitted-length}
use Rattle.header.proofs.write.put_integer.Goals as goal

pub returns : goal.returns
returns c =
    let end : c.unwrap.result ≡ length (mbi_bytes c.args.value) =
    emitted-length (gives (mbi_bytes c.args.value)) _ _ _ refl (sym (ap written c.unwrap.ensures) ∙ c.write_mbi_u32.ensures.answer) in (
      ap (λ (n : ℕ). c.args.at + n) end,
      emits-part c.args.at c.args.out.now (mbi_bytes c.args.value) _ _ c.requires c.write_mbi_u32.ensures,
    )
