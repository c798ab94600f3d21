use Rattle.heap_picture.proofs.fault_lines.write_read_fault.Goals as goal

pub returns : goal.returns
returns g c = rw (c.as_slice.ensures, c.as_bytes.ensures.value, c.as_slice-2.ensures) at c.write_fault.ensures
