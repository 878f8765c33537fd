use Rattle.std.proofs.Common.{◌++◌, ◌∙◌, ap, codes, string_bytes}
use Rattle.agent_parts.proofs.tables.add_name.Goals as goal

pub returns : goal.returns
returns c =
    c.in_ok-write.ensures.bytes
    ∙ ap (λ name. string_bytes c.args.text.now ++ (codes ",\"container\":\"" ++ (name ++ codes "\"")))
    c.as_str-name.ensures.value
