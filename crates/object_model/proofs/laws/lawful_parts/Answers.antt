use Rattle.object_model.proofs.laws.lawful_parts.Goals as goal

pub returns : goal.returns
returns c s = (
  λ lawful. let most = lawful.but_lines in (most.order, (λ k there. ((most.blocks k there).code, (most.blocks k there).owner)), most.free, lawful.lines),
  λ parts. record {
    but_lines = record {
      order = parts.0;
      blocks = λ k there. record { code = (parts.1 k there).0; owner = (parts.1 k there).1 };
      free = parts.2;
    };
    lines = parts.3;
  },
)
