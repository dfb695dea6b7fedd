mod RefusedKinds
