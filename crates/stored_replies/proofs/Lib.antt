mod PackedReplies
